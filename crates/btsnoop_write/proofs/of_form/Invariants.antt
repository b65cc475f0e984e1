use Rattle.std.proofs.Common.{◌≡◌, ◌≤◌, length, drop}
use Rattle.btsnoop_write.specs.Events.{parts_read}
use Rattle.btsnoop_write.specs.Heads.{lengths}
use Rattle.btsnoop_write.proofs.of_form.Given as goal

abbrev pub invariant-loop-i : goal.invariant-loop-i
invariant-loop-i g l =
    let ns = lengths (g.H.HeadList.heads l.heads) in
    (l.from ≤ length l.events) × (parts_read l.events ns ≡ parts_read (drop l.from l.events) (drop l.i ns))
