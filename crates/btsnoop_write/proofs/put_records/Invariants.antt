use Rattle.std.proofs.Common.{◌≡◌, ◌+◌, ◌*◌, ◌≤◌, length, drop, true}
use lib.Seq.{sets}
use Rattle.btsnoop_read.specs.Format.{records_bytes}
use Rattle.btsnoop_write.specs.Events.{parts_read}
use Rattle.btsnoop_write.specs.Heads.{lengths}
use Rattle.btsnoop_write.specs.Laws.{heads_from}
use Rattle.btsnoop_write.proofs.put_records.Given as goal

abbrev pub invariant-loop-i : goal.invariant-loop-i
invariant-loop-i g l =
    let hs = g.H.HeadList.heads l.heads in
    (l.from ≤ length l.events) × (length l.out ≡ length l.initial.out)
    × (parts_read (drop l.from l.events) (drop l.i (lengths hs)) ≡ true)
    × (sets l.initial.out 16 (records_bytes (heads_from l.events hs 0 0))
    ≡ sets l.out (16 + 24 * l.i + l.from) (records_bytes (heads_from l.events hs l.from l.i)))
