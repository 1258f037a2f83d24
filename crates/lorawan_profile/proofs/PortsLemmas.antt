-- What holds of each port.
use Rattle.std.specs.Prelude.{ℕ, ◌≡◌, ◌==◌, ◌↔◌, Bool, true, false, not, ◌&&◌, if◌then◌else◌}
use Rattle.std.specs.Prelude.{Option, Some, None}
use Rattle.std.proofs.Common.{refl, sym, subst, ap}
use Rattle.std.proofs.lemmas.Bool.{false≢true, eqb-true}
use Rattle.schc_ids.specs.declared.ends.Role.{Role}
use Rattle.schc_ids.specs.declared.ends.Role.TheVariants.{Device, Gateway}
use Rattle.schc_ids.specs.declared.ends.Direction.{Direction}
use Rattle.schc_ids.specs.declared.ends.Direction.TheVariants as way
use Rattle.schc_ids.specs.declared.fragments.FragMode.{FragMode}
use Rattle.schc_ids.specs.declared.fragments.FragMode.TheVariants.{NoAck, AckAlways, AckOnError}
use Rattle.lorawan_profile.specs.declared.ports.PortMeaning.TheVariants.{Whole, Unknown}
use Rattle.lorawan_profile.specs.Ports.{fragments_by, meaning_from, meaning_of, is_application_port}
use Rattle.lorawan_profile.specs.Ports.{is_whole, HasParams, IsSent}

-- ---- the ports of fragments, and all others

choose : {A : Type 0} (P : ℕ → A → Type 0) (n k : ℕ) (x y : A) (b : Bool) → (n == k) ≡ b → P k x
    → (not (n == k) ≡ true → P n y) → P n (if b then x else y)
choose P n k x y true e this other = subst (λ z. P z x) (sym (eqb-true n k e)) this
choose P n k x y false e this other = other (ap not e)

-- none of the ports of fragments
abbrev IsOther : ℕ → Type 0
IsOther port = (not (port == 20) ≡ true) × (not (port == 21) ≡ true) × (not (port == 222) ≡ true)
    × (not (port == 223) ≡ true)

each_port : (P : ℕ → Option (Direction × FragMode) → Type 0) → P 20 (Some (way.Up, AckOnError))
    → P 21 (Some (way.Down, AckAlways)) → P 222 (Some (way.Up, NoAck))
    → P 223 (Some (way.Down, NoAck))
    → ((port : ℕ) → IsOther port → P port None) → (port : ℕ) → P port (fragments_by port)
unfolding fragments_by
each_port P on_error always none_up none_down other port =
    choose P port 20 _ _ (port == 20) refl on_error (λ a.
    choose P port 21 _ _ (port == 21) refl always (λ b.
    choose P port 222 _ _ (port == 222) refl none_up (λ c.
    choose P port 223 _ _ (port == 223) refl none_down (λ d. other port (a, b, c, d)))))

-- ---- the parameters

other-has : (role : Role) (port : ℕ) (b : Bool) → HasParams (if b then Whole else Unknown)
other-has role port true = tt
other-has role port false = tt

pub HasParams-meaning_of : (role : Role) (port : ℕ) → HasParams (meaning_of role port)
unfolding meaning_of
HasParams-meaning_of Device port =
    each_port (λ n o. HasParams (meaning_from Device n o)) refl refl tt refl
    (λ n h. other-has Device n (is_application_port n)) port
HasParams-meaning_of Gateway port =
    each_port (λ n o. HasParams (meaning_from Gateway n o)) refl refl refl tt
    (λ n h. other-has Gateway n (is_application_port n)) port

-- ---- what is sent by the port

other-sent : (role : Role) (port : ℕ) (b : Bool) → IsSent role port (if b then Whole else Unknown)
other-sent role port true = tt
other-sent role port false = tt

-- fragments that come by a port are those that the other end sends by it, and answers are those to
-- what this end sends by it, with the same parameters
pub IsSent-meaning_of : (role : Role) (port : ℕ) → IsSent role port (meaning_of role port)
unfolding meaning_of
IsSent-meaning_of Device port =
    each_port (λ n o. IsSent Device n (meaning_from Device n o)) refl (true, refl) tt (false, refl)
    (λ n h. other-sent Device n (is_application_port n)) port
IsSent-meaning_of Gateway port =
    each_port (λ n o. IsSent Gateway n (meaning_from Gateway n o)) (true, refl) refl (false, refl)
    tt (λ n h. other-sent Gateway n (is_application_port n)) port

-- ---- whole packets

whole-cases : (a b c d e : Bool) → b ≡ true → c ≡ true → d ≡ true → e ≡ true
    → ((if a then Whole else Unknown) ≡ Whole) ↔ ((a && b && c && d && e) ≡ true)
whole-cases true true true true true hb hc hd he = (λ h. refl, λ h. refl)
whole-cases true true true true false hb hc hd he = absurd (false≢true he)
whole-cases true true true false e hb hc hd he = absurd (false≢true hd)
whole-cases true true false d e hb hc hd he = absurd (false≢true hc)
whole-cases true false c d e hb hc hd he = absurd (false≢true hb)
whole-cases false b c d e hb hc hd he = (λ h. absurd (cc), λ h. absurd (false≢true h))

other-whole : (role : Role) (port : ℕ) → IsOther port
    → (meaning_from role port None ≡ Whole) ↔ (is_whole port ≡ true)
unfolding is_whole
other-whole role port h =
    whole-cases (is_application_port port) (not (port == 20)) (not (port == 21)) (not (port == 222))
    (not (port == 223)) h.0 h.1 h.2 h.3

-- whole packets come by the ports 1 to 223 but the four of fragments, and by no other
pub meaning_of-whole : (role : Role) (port : ℕ)
    → (meaning_of role port ≡ Whole) ↔ (is_whole port ≡ true)
unfolding meaning_of is_whole
meaning_of-whole Device port =
    each_port (λ n o. (meaning_from Device n o ≡ Whole) ↔ (is_whole n ≡ true))
    (λ h. absurd (cc), λ h. absurd (false≢true h)) (λ h. absurd (cc), λ h. absurd (false≢true h))
    (λ h. absurd (cc), λ h. absurd (false≢true h)) (λ h. absurd (cc), λ h. absurd (false≢true h))
    (other-whole Device) port
meaning_of-whole Gateway port =
    each_port (λ n o. (meaning_from Gateway n o ≡ Whole) ↔ (is_whole n ≡ true))
    (λ h. absurd (cc), λ h. absurd (false≢true h)) (λ h. absurd (cc), λ h. absurd (false≢true h))
    (λ h. absurd (cc), λ h. absurd (false≢true h)) (λ h. absurd (cc), λ h. absurd (false≢true h))
    (other-whole Gateway) port
