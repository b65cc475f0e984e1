use Rattle.std.specs.Prelude.{◌≡◌, ◌≢◌, refl, true}
use mathlib.Core.Path.{ap, sym, ◌∙◌}
use mathlib.Core.Bool.{not}
use Rattle.slot.specs.declared.Located.{Located}
use Rattle.slot.specs.declared.Located.TheVariants.{Setup, Absent, At}
use Rattle.model.proofs.Laws.{in_bounds, locate_checked}
use borrow.Author.Rules.{rules}
use Rattle.search.proofs.is_well_formed.Goals as goal
use Rattle.search.proofs.is_well_formed.Goals.{in-Setup, in_default}

not_setup : (f : Located) → f ≢ Setup → true ≡ in_bounds f
not_setup Setup n = absurd (n refl)
not_setup Absent n = refl
not_setup (At i) n = refl

pub returns : goal.returns
returns c =
    let checked = ap in_bounds c.locate.ensures ∙ locate_checked _ _ in
    elim c.match-matches.branch [
      | in-Setup w ↦ ap not w.matches-is ∙ ap in_bounds (sym w.in-Setup.is) ∙ checked
      | in_default w ↦ ap not w.matches-is ∙ not_setup _ w.in_default.not-Setup ∙ checked
    ]
