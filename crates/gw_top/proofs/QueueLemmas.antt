-- Lines that are put last and taken first.
use Rattle.std.proofs.Common.{◌≡◌, List, [], ◌∷◌, ◌++◌, Option, Some, IfSome, subst, sym}
use Rattle.std.specs.List.{AllByRecursion}
use Rattle.event_data.specs.declared.outcomes.Line.{Line}
use Rattle.transcripts.specs.Lines.{IsSaid}

-- lines none of which tells of want of memory stay so when such a line is put last
pub said_last : (lines : List Line) (line : Line) → AllByRecursion IsSaid lines → IsSaid line
    → AllByRecursion IsSaid (lines ++ line ∷ [])
said_last [] line all one = (one, tt)
said_last (first ∷ lines) line all one = (all.0, said_last lines line all.1 one)

-- of lines that tell of no want of memory, neither the first one nor the others tell of it
pub said_first : (lines : List Line) (line : Line) (rest : List Line) → lines ≡ line ∷ rest
    → AllByRecursion IsSaid lines → IsSaid line × AllByRecursion IsSaid rest
said_first lines line rest same all = subst (AllByRecursion IsSaid) same all

-- lines that tell of no want of memory stay so when one that was taken and tells of none is last
pub said-more : (lines more : List Line) (line : Line) (result : Option Line)
    → more ≡ lines ++ line ∷ [] → result ≡ Some line → IfSome result IsSaid
    → AllByRecursion IsSaid lines → AllByRecursion IsSaid more
said-more lines more line result pushed found one all =
    subst (AllByRecursion IsSaid) (sym pushed)
    (said_last lines line all (subst (λ r. IfSome r IsSaid) found one))
