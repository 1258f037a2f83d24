use Rattle.std.proofs.Common.{subst, ◌≡◌, IsSome, ◌∙◌}
use Rattle.std.proofs.lemmas.Result.{IfOk-weaker, on_err_weaker}
use Rattle.schc_bits.specs.Bits.{octets}
use Rattle.frag_wire.specs.Layouts.{payload_in}
use Rattle.sessions.proofs.CallLemmas.{preview-answering, preview-silent}
use Rattle.sessions.proofs.table.Sessions.preview_message.Goals as goal

pub returns-then-acked-clause-joined : goal.returns-then-acked-clause-joined
returns-then-acked-clause-joined c =
    let s = c.self.inside in
    let m = c.args.message.now in
    let is =
    preview-answering s.role s.params s.running s.answering s.silent s.next s.clocks
    c.args.self.now c.args.acked m (payload_in m (octets c.args.bytes.now)) c.self.view_is
    c.if-acked.true in
    IfOk-weaker c.preview.result _ _ (λ joined h. h ∙ is) c.preview.ensures.joined

pub returns-then-acked-clause-memory : goal.returns-then-acked-clause-memory
returns-then-acked-clause-memory c =
    let s = c.self.inside in
    let m = c.args.message.now in
    let is =
    preview-answering s.role s.params s.running s.answering s.silent s.next s.clocks
    c.args.self.now c.args.acked m (payload_in m (octets c.args.bytes.now)) c.self.view_is
    c.if-acked.true in
    on_err_weaker c.preview.result (λ h. subst IsSome is h) c.preview.ensures.memory

pub returns-else-acked-clause-joined : goal.returns-else-acked-clause-joined
returns-else-acked-clause-joined c =
    let s = c.self.inside in
    let m = c.args.message.now in
    let is =
    preview-silent s.role s.params s.running s.answering s.silent s.next s.clocks
    c.args.self.now c.args.acked m (payload_in m (octets c.args.bytes.now)) c.self.view_is
    c.if-acked.false in
    IfOk-weaker c.preview-else-acked.result _ _ (λ joined h. h ∙ is)
    c.preview-else-acked.ensures.joined

pub returns-else-acked-clause-memory : goal.returns-else-acked-clause-memory
returns-else-acked-clause-memory c =
    let s = c.self.inside in
    let m = c.args.message.now in
    let is =
    preview-silent s.role s.params s.running s.answering s.silent s.next s.clocks
    c.args.self.now c.args.acked m (payload_in m (octets c.args.bytes.now)) c.self.view_is
    c.if-acked.false in
    on_err_weaker c.preview-else-acked.result (λ h. subst IsSome is h)
    c.preview-else-acked.ensures.memory
