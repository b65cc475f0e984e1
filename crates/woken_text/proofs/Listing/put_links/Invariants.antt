use Rattle.std.specs.Prelude.{◌≡◌, ◌-◌}
use Rattle.text.specs.Text.{put_all, put_end, each}
use Rattle.woken_text.specs.Woken.{listed, first_after, links_names, names_at}
use Rattle.woken_text.proofs.Listing.put_links.Given as goal

-- what is left to be put
abbrev pub invariant-loop-i : goal.invariant-loop-i
invariant-loop-i l =
    (put_all l.initial.out l.initial.l.at (listed l.initial.l.is_first (links_names l.w)) ≡ put_all l.out l.l.at (listed l.l.is_first (each (names_at l.w) (16 - l.i) l.i)))
    × (put_end l.initial.out l.initial.l.at (listed l.initial.l.is_first (links_names l.w)) ≡ put_end l.out l.l.at (listed l.l.is_first (each (names_at l.w) (16 - l.i) l.i)))
    × (first_after l.initial.l.is_first (links_names l.w) ≡ first_after l.l.is_first (each (names_at l.w) (16 - l.i) l.i))
