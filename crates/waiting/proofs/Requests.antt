-- The requests of our shelf in a frame are those of the document's shelf. Assumes nothing.
use Prim.Native.Nat.{ℕ, ◌<◌}
use native.Mathlib.Omega.{arith}
use mathlib.Core.Path.{ap, ◌∙◌}
use lib.ListN.{length}
use Rattle.soundness.specs.Admission.{unit_at, Housed}
use Rattle.soundness.proofs.Laws.{sound_housed}
use Rattle.framing.specs.Requests.{requests}
use Rattle.framing.specs.Moves.{moved, moved_stores}
use Rattle.document.specs.Shelf.{Shelf, opened}
use Rattle.document.specs.Frame as page
use Rattle.document.specs.Steps.{becomes}
use Rattle.running.specs.Events.{World}
use Rattle.running.specs.Keeping.{run, loaded}
use Rattle.running.proofs.Moved.{moves_sound}
use Rattle.running.proofs.InPlace.{runs_in_place}
use Rattle.refining.proofs.Moved.{moves_alike}
use Rattle.refining.proofs.Frames.{requests_alike}
use Rattle.refining.proofs.Opens.{opened_alike}
use Rattle.refining.proofs.Refined.{run_alike}
use Rattle.waiting.specs.Waiting.{SameRequests}

pub same_requests : SameRequests
same_requests card text memory store rows told good es =
    let w : World = run card (loaded card text memory store rows) es in
    let d : Shelf = becomes (opened told) es in
    let a = (run_alike card (loaded card text memory store rows) (opened told) (opened_alike card text memory store rows told good) es).alike in
    let many = length w.rows in
    let stores = moved_stores w.shelf w.store in
    let housed : (k : ℕ) → k < length d.units → Housed k (unit_at w.shelf k) (length w.store) = λ k h. (sound_housed card w.shelf (length w.store) many a.sound k (omega (arith, h, a.shelf.many))).0 in
    let then = moves_alike card w.shelf w.memory w.store d a.shelf housed in
    let sound = moves_sound card w.shelf w.store many a.sound in
    let same = (runs_in_place card text memory store rows es).same in
    record {
      requests = ap (λ x. (requests (moved x.shelf)).asks) same
          ∙ ap (λ x. x.asks) (requests_alike card (moved w.shelf) w.memory stores (page.moved d) then (λ k h. (sound_housed card (moved w.shelf) (length stores) many sound k (omega (arith, h, then.many))).0));
      lasts = ap (λ x. x.shelf.arbiter.last) same ∙ ap (λ x. x.last) a.shelf.arbiter;
    }
