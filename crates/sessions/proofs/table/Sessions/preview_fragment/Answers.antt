use Rattle.std.proofs.Common.{subst, ap, ◌≡◌, IsSome, ◌∙◌}
use Rattle.std.proofs.lemmas.Result.{IfOk-weaker, on_err_weaker}
use Rattle.schc_ids.specs.declared.fragments.Side.TheVariants as side
use Rattle.sessions.proofs.ReadingLemmas.{read-is}
use Rattle.sessions.proofs.CallLemmas.{preview-ok, preview-err}
use Rattle.sessions.proofs.table.Sessions.preview_fragment.Goals as goal

pub returns-in-Ok-clause-joined : goal.returns-in-Ok-clause-joined
returns-in-Ok-clause-joined c =
    let params = c.args.params.now in
    let bytes = c.args.bytes.now in
    let read =
    read-is params side.Fragments bytes c.read.result c.read.ensures.spells c.read.ensures.fault
    in
    let is =
    preview-ok c.args.self.now c.args.port params c.requires.0 c.is_answered.result bytes
    c.in-Ok.message c.read.result c.requires.1
    (c.is_answered.ensures c.requires.0 (ap (λ way. way.0) c.requires.1)) read c.in-Ok.is in
    IfOk-weaker c.preview_message.result _ _ (λ joined h. h ∙ is) c.preview_message.ensures.joined

pub returns-in-Ok-clause-memory : goal.returns-in-Ok-clause-memory
returns-in-Ok-clause-memory c =
    let params = c.args.params.now in
    let bytes = c.args.bytes.now in
    let read =
    read-is params side.Fragments bytes c.read.result c.read.ensures.spells c.read.ensures.fault
    in
    let is =
    preview-ok c.args.self.now c.args.port params c.requires.0 c.is_answered.result bytes
    c.in-Ok.message c.read.result c.requires.1
    (c.is_answered.ensures c.requires.0 (ap (λ way. way.0) c.requires.1)) read c.in-Ok.is in
    on_err_weaker c.preview_message.result (λ h. subst IsSome is h) c.preview_message.ensures.memory

pub returns-in-Err-clause-joined : goal.returns-in-Err-clause-joined
returns-in-Err-clause-joined c =
    let params = c.args.params.now in
    let bytes = c.args.bytes.now in
    let read =
    read-is params side.Fragments bytes c.read.result c.read.ensures.spells c.read.ensures.fault
    in
    preview-err c.args.self.now c.args.port params bytes c.in-Err.field-0 c.read.result read
    c.in-Err.is
