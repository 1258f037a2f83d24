use Rattle.std.proofs.Common.{subst, ap, ◌≡◌, IsSome, ◌∙◌}
use Rattle.std.proofs.lemmas.Result.{IfOk-weaker, on_err_weaker}
use Rattle.lorawan_profile.specs.Ports.{meaning_of}
use Rattle.sessions.proofs.CallLemmas.{preview-fragments, preview-other}
use Rattle.sessions.proofs.table.Sessions.preview.Goals as goal

pub returns-clause-joined : goal.returns-clause-joined
returns-clause-joined c =
    let is =
    preview-fragments c.args.self.now c.args.port c.in-Fragments.params c.args.bytes.now
    c.meaning.result
    (c.meaning.ensures.exact ∙ ap (λ s. meaning_of s.role c.args.port) c.self.view_is)
    c.in-Fragments.is in
    IfOk-weaker c.preview_fragment.result _ _ (λ joined h. h ∙ is) c.preview_fragment.ensures.joined

pub returns-clause-memory : goal.returns-clause-memory
returns-clause-memory c =
    let is =
    preview-fragments c.args.self.now c.args.port c.in-Fragments.params c.args.bytes.now
    c.meaning.result
    (c.meaning.ensures.exact ∙ ap (λ s. meaning_of s.role c.args.port) c.self.view_is)
    c.in-Fragments.is in
    on_err_weaker c.preview_fragment.result (λ h. subst IsSome is h)
    c.preview_fragment.ensures.memory

pub returns-in_default : goal.returns-in_default
returns-in_default c =
    record {
      joined =
          preview-other c.args.self.now c.args.port c.args.bytes.now c.meaning.result
          (c.meaning.ensures.exact ∙ ap (λ s. meaning_of s.role c.args.port) c.self.view_is)
          c.in_default.not-Fragments;
      memory = tt;
      room = tt;
    }
