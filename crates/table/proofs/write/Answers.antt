use mathlib.Core.Path.{ap, ◌∙◌}
use Rattle.lookup.specs.declared.Record.TheVariants.{Route}
use Rattle.meaning.specs.Enact.{put_by, put_vc, memory_by}
use Rattle.table.proofs.write.Goals as goal

pub returns-in-Bus : goal.returns-in-Bus
unfolding memory_by
returns-in-Bus c = rw c.in-Bus.is

pub returns-in-Unit : goal.returns-in-Unit
unfolding memory_by
returns-in-Unit c = rw c.in-Unit.is

pub returns-in-Vp : goal.returns-in-Vp
unfolding memory_by
returns-in-Vp c =
    let a = c.args in
    let l = c.in-Vp in
    c.put_path.ensures
    ∙ ap (λ h. put_by a.card a.memory.now a.o l.vpi (Route h l.outvpi 0)) c.write-header.ensures ∙ rw l.is

pub returns-in-Drop : goal.returns-in-Drop
unfolding memory_by
returns-in-Drop c = c.put_path-in-Drop.ensures ∙ rw c.in-Drop.is

pub returns-in-Page : goal.returns-in-Page
unfolding memory_by
returns-in-Page c = c.put_path-in-Page.ensures ∙ rw c.in-Page.is

pub returns-in-Vc : goal.returns-in-Vc
unfolding memory_by
returns-in-Vc c =
    let a = c.args in
    let l = c.in-Vc in
    c.put_circuit.ensures
    ∙ ap (λ h. put_vc a.card a.memory.now a.o l.vpi l.vci (Route h l.outvpi l.outvci)) c.write-header-in-Vc.ensures ∙ rw l.is

pub returns-in-Mc : goal.returns-in-Mc
unfolding memory_by
returns-in-Mc c = rw c.in-Mc.is
