use Rattle.std.proofs.Common.{sym, ◌∙◌, inl, inr}
use Rattle.ip_udp_fields.proofs.RefusalLemmas.{refusal-ip, refusal-none_ip, refusal-udp}
use Rattle.ip_udp_fields.proofs.RefusalLemmas.{refusal-coap}
use Rattle.ip_udp_fields.proofs.splitting.refusal.Goals as goal

pub returns-in-Some : goal.returns-in-Some
returns-in-Some c =
    sym (refusal-ip c.args.stack c.args.packet.now c.in-Some.fault (sym c.in-Some.ensures))

pub returns-in-Ip : goal.returns-in-Ip
returns-in-Ip c = rw c.in-Ip.is (sym (refusal-none_ip c.args.packet.now (sym c.in-None.ensures)))

pub returns-in-IpUdp : goal.returns-in-IpUdp
returns-in-IpUdp c =
    elim c.in-IpUdp.is [
      | inl e ↦ rw e
          (c.udp_refusal.ensures ∙ sym (refusal-udp c.args.packet.now (sym c.in-None.ensures)))
      | inr e ↦ rw e
          (c.udp_refusal.ensures ∙ sym (refusal-coap c.args.packet.now (sym c.in-None.ensures)))
    ]
