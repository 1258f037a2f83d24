-- What holds of every end.
use Rattle.std.specs.Prelude.{ℕ, ◌≡◌, ◌↔◌, Bool, List, Some}
use Rattle.schc_ids.specs.declared.notes.Note.TheVariants as note
use Rattle.sessions.specs.Data.{SessionsData}
use Rattle.sessions.specs.Steps.{preview_of, take_step}

-- a preview gives bits exactly where taking the frame is noted as joined
abbrev pub PreviewJoins : Type 0
PreviewJoins =
    (port : ℕ) (bytes : List ℕ) (s : SessionsData) →
    ((bits : List Bool) × (preview_of port bytes s ≡ Some bits)) ↔
    ((take_step port bytes s).1.0 ≡ note.Joined)
