pub mod RoutingLaws
pub mod Laws
pub mod Wire
