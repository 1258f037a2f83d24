-- The keys of an end.
use Rattle.std.specs.Prelude.{ℕ, ◌≡◌, ◌==◌, Bool, true, false, Some}
use Rattle.std.proofs.Common.{refl, subst}
use Rattle.schc_ids.specs.Ends.{other_role}
use Rattle.schc_ids.specs.declared.ends.Role.{Role}
use Rattle.schc_ids.specs.declared.ends.Role.TheVariants.{Device, Gateway}
use Rattle.schc_ids.specs.declared.fragments.FragParams.{FragParams}
use Rattle.lorawan_profile.specs.Ports.{sending_of, IsSent}
use Rattle.lorawan_profile.specs.declared.ports.PortMeaning.{PortMeaning}
use Rattle.lorawan_profile.specs.declared.ports.PortMeaning.TheVariants.{Answers}
use Rattle.sessions.specs.Data.{in_key, receptions, pick}
use Rattle.sessions.specs.Keys.{same_key, found, entry, without, put_in}
use Rattle.sessions.specs.Reception.{Reception}

-- the port says whether the fragments are answered
pub acked-by-port : (role : Role) (acked : Bool)
    → ((sending_of (other_role role) acked).0 == (sending_of (other_role role) true).0) ≡ acked
acked-by-port Device true = refl
acked-by-port Device false = refl
acked-by-port Gateway true = refl
acked-by-port Gateway false = refl

pub own-by-port : (role : Role) (acked : Bool)
    → ((sending_of role true).0 == (sending_of role acked).0) ≡ acked
own-by-port Device true = refl
own-by-port Device false = refl
own-by-port Gateway true = refl
own-by-port Gateway false = refl

-- the key of answered fragments has the receiver that answers, the other key the silent one
pub found-in : (role : Role) (acked : Bool) (answering silent : Reception)
    → found (in_key role acked) (receptions role answering silent) ≡ Some
    (pick acked answering silent)
unfolding found same_key
found-in Device true answering silent = refl
found-in Device false answering silent = refl
found-in Gateway true answering silent = refl
found-in Gateway false answering silent = refl

-- what is put in by the key of answered fragments replaces the receiver that answers, and no other
pub put-answering : (role : Role) (answering silent new : Reception)
    → put_in (in_key role true) (Some new) (receptions role answering silent) ≡ receptions role new
    silent
unfolding put_in without entry same_key
put-answering Device answering silent new = refl
put-answering Gateway answering silent new = refl

-- what is put in by the key of fragments without answers replaces the silent one, and no other
pub put-silent : (role : Role) (answering silent new : Reception)
    → put_in (in_key role false) (Some new) (receptions role answering silent) ≡ receptions role
    answering new
unfolding put_in without entry same_key
put-silent Device answering silent new = refl
put-silent Gateway answering silent new = refl

-- the port of answers is that by which the end sends
pub sent-answers : (role : Role) (port : ℕ) (means : PortMeaning) (params : FragParams)
    → means ≡ Answers params → IsSent role port means → sending_of role true ≡ (port, params)
sent-answers role port means params e h = subst (IsSent role port) e h
