use Rattle.btsnoop_read.specs.Head.{head_past}
use Rattle.btsnoop_read.proofs.head_at.Goals as goal

pub returns-then-s-at : goal.returns-then-s-at
returns-then-s-at c = head_past c.args.s.now c.args.at c.if-s-at.true

pub returns : goal.returns
returns c =
    λ k. record { original = c.u32_at-original.ensures k; included = c.u32_at-included.ensures k; flags = c.u32_at-flags.ensures k; drops = c.u32_at-drops.ensures k; timestamp = c.u64_at-timestamp.ensures k }
