-- A sender stays the sender of its SCHC packet.
use Rattle.std.specs.Prelude.{◌≡◌, List, Bool}
use Rattle.std.proofs.Common.{refl, ◌∙◌}
use Rattle.schc_ids.specs.Fragments.{params_of}
use Rattle.schc_ids.specs.declared.ends.LastTile.{LastTile}
use Rattle.schc_ids.specs.declared.fragments.FragMode.{FragMode}
use Rattle.schc_ids.specs.declared.fragments.FragMode.TheVariants as mode
use Rattle.frag_wire.specs.declared.message.Message.{Message}
use Rattle.no_ack.proofs.KeptLemmas as no_ack_law
use Rattle.no_ack.specs.Laws as no_ack_spec
use Rattle.no_ack.specs.SenderState as no_ack
use Rattle.aa_sender.proofs.KeptLemmas as aa_law
use Rattle.aa_sender.proofs.SessionLemmas as aa_session
use Rattle.aa_sender.specs.Laws as aa_spec
use Rattle.aa_sender.specs.State as aa
use Rattle.aoe_sender.proofs.KeepsLemmas as aoe_law
use Rattle.aoe_sender.proofs.SessionLemmas as aoe_session
use Rattle.aoe_sender.specs.Laws as aoe_spec
use Rattle.aoe_sender.specs.State as aoe
use Rattle.aoe_sender.specs.Steps as aoe_step
use Rattle.sessions.specs.Senders.{sender_begun, sender_params, sender_mtu, sender_bits}
use Rattle.sessions.specs.Senders.{sender_sent, sender_heard, sender_retried, sender_aborted}
use Rattle.sessions.specs.declared.senders.Sender.{Sender}
use Rattle.sessions.specs.declared.senders.Sender.TheVariants.{NoAck, AckAlways, AckOnError}
use Rattle.lanes.specs.Events.{CanBegin}
use Rattle.lanes.specs.Lane.{LaneParams, AreLaneParams}

-- what holds of every sender of its mode: its parameters, the bits of its packet, where it stands
abbrev pub IsSender : Sender → Type 0
IsSender (NoAck s) = no_ack.IsNoAckSender s
IsSender (AckAlways s) = aa.IsAaSender s
IsSender (AckOnError s) = aoe_step.IsAoeSender s

-- where the last tile goes has a meaning in ACK-on-Error alone
abbrev pub HasLast : LastTile → Sender → Type 0
HasLast last (NoAck s) = Unit {0}
HasLast last (AckAlways s) = Unit {0}
HasLast last (AckOnError s) = s.last ≡ last

-- a sender with these parameters, of the packet with these bits
pub record IsSenderOf (params : LaneParams) (bits : List Bool) (sender : Sender) : Type 0 where
  pub row : sender_params sender ≡ params.frag
  pub mtu : sender_mtu sender ≡ params.ends.mtu
  pub last : HasLast params.ends.last sender
  pub same : sender_bits sender ≡ bits
  pub sound : IsSender sender

-- A session begins.

begun-in : (m : FragMode) (params : LaneParams) (bits : List Bool) → params.frag ≡ params_of m
    → AreLaneParams params → CanBegin bits
    → IsSenderOf params bits (sender_begun m params.frag params.ends.mtu params.ends.last bits)
unfolding sender_begun aoe_step.begun
begun-in mode.NoAck params bits row are can =
    record {
      row = refl;
      mtu = refl;
      last = tt;
      same = refl;
      sound = no_ack_law.begins_one params.frag params.ends.mtu params.ends.last bits row
          are.in_range.mtu can.least can.most;
    }
begun-in mode.AckAlways params bits row are can =
    record {
      row = refl;
      mtu = refl;
      last = tt;
      same = refl;
      sound = aa_law.begins_one params.frag params.ends.mtu params.ends.last bits row
          are.in_range.mtu can.least can.most;
    }
begun-in mode.AckOnError params bits row are can =
    record {
      row = refl;
      mtu = refl;
      last = refl;
      same = refl;
      sound = aoe_law.begun-keeps params.frag params.ends.mtu params.ends.last bits row
          are.in_range.mtu can.least can.most;
    }

-- a session whose bits may go as one begins with a sender of them, with the lane's parameters
pub begun-is : (params : LaneParams) (bits : List Bool) → AreLaneParams params → CanBegin bits
    → IsSenderOf params bits
    (sender_begun params.frag.mode params.frag params.ends.mtu params.ends.last bits)
begun-is params bits are can = begun-in params.frag.mode params bits are.row are can

-- Each step leaves all but where the sender stands.

no_ack-is : (params : LaneParams) (bits : List Bool) (s other : no_ack.NoAckSenderData)
    → no_ack_spec.IsSameSession s other → no_ack.IsNoAckSender other
    → IsSenderOf params bits (NoAck s) → IsSenderOf params bits (NoAck other)
no_ack-is params bits s other same sound is =
    record {
      row = same.params ∙ is.row;
      mtu = same.mtu ∙ is.mtu;
      last = tt;
      same = same.bits
          ∙ is.same;
      sound = sound;
    }

aa-is : (params : LaneParams) (bits : List Bool) (s other : aa.AaSenderData)
    → aa_spec.IsSameSession s other → aa.IsAaSender other → IsSenderOf params bits (AckAlways s)
    → IsSenderOf params bits (AckAlways other)
aa-is params bits s other same sound is =
    record {
      row = same.params ∙ is.row;
      mtu = same.mtu ∙ is.mtu;
      last = tt;
      same = same.bits
          ∙ is.same;
      sound = sound;
    }

aoe-is : (params : LaneParams) (bits : List Bool) (s other : aoe.AoeSenderData)
    → aoe_spec.IsSameSession s other → aoe_step.IsAoeSender other
    → IsSenderOf params bits (AckOnError s) → IsSenderOf params bits (AckOnError other)
aoe-is params bits s other same sound is =
    record {
      row = same.params ∙ is.row;
      mtu = same.mtu ∙ is.mtu;
      last = same.last ∙ is.last;
      same = same.bits ∙ is.same;
      sound = sound;
    }

-- a sender that gave a message stays the sender of its packet, with its parameters
pub sent-is : (params : LaneParams) (bits : List Bool) (sender : Sender)
    → IsSenderOf params bits sender → IsSenderOf params bits (sender_sent sender)
unfolding sender_sent
sent-is params bits (NoAck s) is =
    no_ack-is params bits s _ (no_ack_law.keeps_session s).0 (no_ack_law.stays_one s is.sound).sends
    is
sent-is params bits (AckAlways s) is =
    aa-is params bits s _ (aa_session.keeps_session s).sends (aa_law.stays_one s is.sound).sends is
sent-is params bits (AckOnError s) is =
    aoe-is params bits s _ (aoe_session.keeps-session s).sends (aoe_law.sent-keeps s is.sound) is

-- a sender that heard a message stays the sender of its packet, with its parameters
pub heard-is : (params : LaneParams) (bits : List Bool) (message : Message) (sender : Sender)
    → IsSenderOf params bits sender → IsSenderOf params bits (sender_heard message sender).0
unfolding sender_heard
heard-is params bits message (NoAck s) is = is
heard-is params bits message (AckAlways s) is =
    aa-is params bits s _ ((aa_session.keeps_session s).hears message)
    ((aa_law.stays_one s is.sound).hears message) is
heard-is params bits message (AckOnError s) is =
    aoe-is params bits s _ ((aoe_session.keeps-session s).hears message)
    (aoe_law.heard-keeps message s is.sound) is

-- a sender whose retransmission timer was due stays the sender of its packet, with its parameters
pub retried-is : (params : LaneParams) (bits : List Bool) (sender : Sender)
    → IsSenderOf params bits sender → IsSenderOf params bits (sender_retried sender).0
unfolding sender_retried
retried-is params bits (NoAck s) is = is
retried-is params bits (AckAlways s) is =
    aa-is params bits s _ (aa_session.keeps_session s).retries (aa_law.stays_one s is.sound).retries
    is
retried-is params bits (AckOnError s) is =
    aoe-is params bits s _ (aoe_session.keeps-session s).retries (aoe_law.retried-keeps s is.sound)
    is

-- a sender whose session is given up stays the sender of its packet, with its parameters
pub aborted-is : (params : LaneParams) (bits : List Bool) (sender : Sender)
    → IsSenderOf params bits sender → IsSenderOf params bits (sender_aborted sender).0
unfolding sender_aborted
aborted-is params bits (NoAck s) is =
    no_ack-is params bits s _ (no_ack_law.keeps_session s).1
    (no_ack_law.stays_one s is.sound).aborts is
aborted-is params bits (AckAlways s) is =
    aa-is params bits s _ (aa_session.keeps_session s).aborts (aa_law.stays_one s is.sound).aborts
    is
aborted-is params bits (AckOnError s) is =
    aoe-is params bits s _ (aoe_session.keeps-session s).aborts (aoe_law.aborted-keeps s is.sound)
    is
