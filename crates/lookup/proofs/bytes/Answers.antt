use mathlib.Core.Path.{◌∙◌}
use Rattle.lookup.specs.Record.{bytes_of}
use Rattle.lookup.proofs.bytes.Goals as goal

pub returns-in-Empty : goal.returns-in-Empty
unfolding bytes_of
returns-in-Empty c = rw c.in-Empty.is

pub returns-in-Drop : goal.returns-in-Drop
unfolding bytes_of
returns-in-Drop c = rw c.in-Drop.is

pub returns-in-Route : goal.returns-in-Route
unfolding bytes_of
returns-in-Route c = c.route.ensures ∙ rw c.in-Route.is

pub returns-in-Page : goal.returns-in-Page
unfolding bytes_of
returns-in-Page c = c.page.ensures ∙ rw c.in-Page.is
