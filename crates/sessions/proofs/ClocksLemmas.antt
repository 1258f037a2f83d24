-- The timers of an end in one set, and which of them are due.
use Rattle.std.specs.Prelude.{ℕ, ◌≡◌, ◌<◌, Bool, true, false, ◌||◌, List, [], ◌∷◌, length, Option}
use Rattle.std.specs.Prelude.{Some, None, option_map, slice_set}
use Rattle.std.proofs.Common.{arith, refl, sym, subst}
use Rattle.timers.specs.Timers.{is_due, tick_step, first_due, without}
use Rattle.sessions.specs.Clocks.{ClocksData, clocks_of, key_of, clock_at, set_clock, all_ticked}
use Rattle.sessions.specs.Clocks.{unless_due, cleared, due_in, both, with_clock, one_if, count_due}
use Rattle.sessions.specs.Clocks.{first_clock, without_clock}
use Rattle.sessions.specs.declared.clocks.Clock.{Clock}
use Rattle.sessions.specs.declared.clocks.Clock.TheVariants.{Sending, Answering, Silent}
use Rattle.sessions.specs.declared.clocks.Due.{Due}

-- to set the place of one timer in a list of three sets that timer, and leaves the two others
pub set_clock_is : (timers : List (Option ℕ)) (clock : Clock) (left : Option ℕ) → length timers ≡ 3
    → clocks_of (slice_set timers (key_of clock) left) ≡ set_clock clock left (clocks_of timers)
set_clock_is [] clock left h = absurd (omega (arith, h))
set_clock_is (a ∷ []) clock left h = absurd (omega (arith, h))
set_clock_is (a ∷ b ∷ []) clock left h = absurd (omega (arith, h))
set_clock_is (a ∷ b ∷ c ∷ []) Sending left h = refl
set_clock_is (a ∷ b ∷ c ∷ []) Answering left h = refl
set_clock_is (a ∷ b ∷ c ∷ []) Silent left h = refl
set_clock_is (a ∷ b ∷ c ∷ d ∷ xs) clock left h = absurd (omega (arith, h))

-- a tick of a list of three timers is one of each of the end's timers
pub tick_clocks : (timers : List (Option ℕ)) → length timers ≡ 3
    → clocks_of (tick_step timers) ≡ all_ticked (clocks_of timers)
tick_clocks [] h = absurd (omega (arith, h))
tick_clocks (a ∷ []) h = absurd (omega (arith, h))
tick_clocks (a ∷ b ∷ []) h = absurd (omega (arith, h))
tick_clocks (a ∷ b ∷ c ∷ []) h = refl
tick_clocks (a ∷ b ∷ c ∷ d ∷ xs) h = absurd (omega (arith, h))

due-three : (a b c : Option ℕ) (x y z : Bool) → is_due a ≡ x → is_due b ≡ y → is_due c ≡ z
    → option_map clock_at (first_due (a ∷ b ∷ c ∷ [])) ≡ first_clock (clocks_of (a ∷ b ∷ c ∷ []))
unfolding first_clock clock_at
due-three a b c true y z e f g = rw e refl
due-three a b c false true z e f g = rw (e, f) refl
due-three a b c false false true e f g = rw (e, f, g) refl
due-three a b c false false false e f g = rw (e, f, g) refl

-- the lowest key that is due in a list of three timers is that of the first timer that is due
pub due-clock : (timers : List (Option ℕ)) → length timers ≡ 3
    → option_map clock_at (first_due timers) ≡ first_clock (clocks_of timers)
due-clock [] h = absurd (omega (arith, h))
due-clock (a ∷ []) h = absurd (omega (arith, h))
due-clock (a ∷ b ∷ []) h = absurd (omega (arith, h))
due-clock (a ∷ b ∷ c ∷ []) h = due-three a b c (is_due a) (is_due b) (is_due c) refl refl refl
due-clock (a ∷ b ∷ c ∷ d ∷ xs) h = absurd (omega (arith, h))

taken-three : (a b c : Option ℕ) (x y z : Bool) → is_due a ≡ x → is_due b ≡ y → is_due c ≡ z
    → clocks_of (without (a ∷ b ∷ c ∷ []) (first_due (a ∷ b ∷ c ∷ []))) ≡ without_clock
    (first_clock (clocks_of (a ∷ b ∷ c ∷ []))) (clocks_of (a ∷ b ∷ c ∷ []))
unfolding first_clock
taken-three a b c true y z e f g = rw e refl
taken-three a b c false true z e f g = rw (e, f) refl
taken-three a b c false false true e f g = rw (e, f, g) refl
taken-three a b c false false false e f g = rw (e, f, g) refl

-- to take the lowest key that is due out of a list of three disarms the first timer that is due
pub taken-clock : (timers : List (Option ℕ)) → length timers ≡ 3
    → clocks_of (without timers (first_due timers)) ≡ without_clock (first_clock (clocks_of timers))
    (clocks_of timers)
taken-clock [] h = absurd (omega (arith, h))
taken-clock (a ∷ []) h = absurd (omega (arith, h))
taken-clock (a ∷ b ∷ []) h = absurd (omega (arith, h))
taken-clock (a ∷ b ∷ c ∷ []) h = taken-three a b c (is_due a) (is_due b) (is_due c) refl refl refl
taken-clock (a ∷ b ∷ c ∷ d ∷ xs) h = absurd (omega (arith, h))

or-true : (b : Bool) → (b || true) ≡ true
or-true true = refl
or-true false = refl

or-false : (b : Bool) → (b || false) ≡ b
or-false true = refl
or-false false = refl

-- what a timer that is taken out leaves to be taken out, and what is left where none is due
pub record Leads (clock : Clock) (clocks : ClocksData) (due : Due) : Type 0 where
  pub after : cleared (set_clock clock None clocks) ≡ cleared clocks
  pub taken : both (with_clock due clock) (due_in (set_clock clock None clocks)) ≡ both due
      (due_in clocks)
  pub fewer : count_due (set_clock clock None clocks) < count_due clocks

pub record Ends (clocks : ClocksData) (due : Due) : Type 0 where
  pub after : cleared clocks ≡ clocks
  pub none : both due (due_in clocks) ≡ due

abbrev pub LeadsOn : Option Clock → ClocksData → Due → Type 0
LeadsOn None clocks due = Ends clocks due
LeadsOn (Some clock) clocks due = Leads clock clocks due

sending-leads : (s a n : Option ℕ) (d : Due) → is_due s ≡ true
    → Leads Sending (record { sending = s; answering = a; silent = n }) d
unfolding unless_due count_due one_if
sending-leads s a n d e = record {
  after = rw e refl;
  taken = rw (e, or-true d.sending) refl;
  fewer = rw e (omega arith);
}

answering-leads : (s a n : Option ℕ) (d : Due) → is_due a ≡ true
    → Leads Answering (record { sending = s; answering = a; silent = n }) d
unfolding unless_due count_due one_if
answering-leads s a n d e = record {
  after = rw e refl;
  taken = rw (e, or-true d.answering) refl;
  fewer = rw e (omega arith);
}

silent-leads : (s a n : Option ℕ) (d : Due) → is_due n ≡ true
    → Leads Silent (record { sending = s; answering = a; silent = n }) d
unfolding unless_due count_due one_if
silent-leads s a n d e = record {
  after = rw e refl;
  taken = rw (e, or-true d.silent) refl;
  fewer = rw e (omega arith);
}

none-ends : (s a n : Option ℕ) (d : Due) → is_due s ≡ false → is_due a ≡ false → is_due n ≡ false
    → Ends (record { sending = s; answering = a; silent = n }) d
unfolding unless_due
none-ends s a n d e f g = record {
  after = rw (e, f, g) refl;
  none = rw (e, f, g, or-false d.sending, or-false d.answering, or-false d.silent) refl;
}

leads-three : (s a n : Option ℕ) (d : Due) (x y z : Bool) → is_due s ≡ x → is_due a ≡ y
    → is_due n ≡ z
    → LeadsOn (first_clock (record { sending = s; answering = a; silent = n }))
    (record { sending = s; answering = a; silent = n }) d
unfolding first_clock
leads-three s a n d true y z e f g = rw e (sending-leads s a n d e)
leads-three s a n d false true z e f g = rw (e, f) (answering-leads s a n d f)
leads-three s a n d false false true e f g = rw (e, f, g) (silent-leads s a n d g)
leads-three s a n d false false false e f g = rw (e, f, g) (none-ends s a n d e f g)

pub leads : (clocks : ClocksData) (due : Due) → LeadsOn (first_clock clocks) clocks due
leads clocks due =
    leads-three clocks.sending clocks.answering clocks.silent due (is_due clocks.sending)
    (is_due clocks.answering) (is_due clocks.silent) refl refl refl

-- the timer that is taken out leaves what is to be taken out, and no timer leaves nothing
pub leads-some : (clocks : ClocksData) (due : Due) (clock : Clock) → Some clock ≡ first_clock clocks
    → Leads clock clocks due
leads-some clocks due clock e = subst (λ o. LeadsOn o clocks due) (sym e) (leads clocks due)

-- where no timer is due, all stay as they are, and none is added to those that were due
pub ends-none : (clocks : ClocksData) (due : Due) → None ≡ first_clock clocks → Ends clocks due
ends-none clocks due e = subst (λ o. LeadsOn o clocks due) (sym e) (leads clocks due)
