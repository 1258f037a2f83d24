-- Rings of nodes: what an exchange makes of them, and that a ring has all keys of its place.
use Rattle.std.proofs.Common.{arith, sym, ap, refl, subst, ◌∙◌, ℕ, suc, zero, ◌≡◌, ◌≢◌, ◌==◌, ◌+◌}
use Rattle.std.proofs.Common.{◌*◌, ◌<◌, ◌≤◌, inl, inr, cond, List, length, slice_set, get_or}
use Rattle.std.proofs.Common.{get_or-set_same, get_or-set_other}
use Rattle.std.proofs.lemmas.Bool.{cases_lt, cases_eq, cond-true, cond-false}
use Rattle.std.proofs.lemmas.Bool.Decides.{eqb_tells}
use Rattle.std.proofs.lemmas.List.{length-set}
use Rattle.timers.specs.KeyLists.{exchanged, AreInverse, IsExchanged, AreRings, AreLinked, at_node}

-- a function with another number at one place
abbrev pub with_at : ℕ → ℕ → (ℕ → ℕ) → ℕ → ℕ
with_at k v f x = cond (x == k) v (f x)

pub with_at-same : (k v : ℕ) (f : ℕ → ℕ) (x : ℕ) → x ≡ k → with_at k v f x ≡ v
with_at-same k v f x e = elim (eqb_tells x k) [
  | inl h ↦ cond-true (x == k) v (f x) h.0
  | inr h ↦ absurd (h.1 e)
]

pub with_at-other : (k v : ℕ) (f : ℕ → ℕ) (x : ℕ) → x ≢ k → with_at k v f x ≡ f x
with_at-other k v f x ne = elim (eqb_tells x k) [
  | inl h ↦ absurd (ne h.1)
  | inr h ↦ cond-false (x == k) v (f x) h.0
]

ex-first : (a b x : ℕ) → x ≡ a → exchanged a b x ≡ b
ex-first a b x e = with_at-same a b (with_at b a (λ y. y)) x e

ex-other : (a b x : ℕ) → x ≢ a → x ≢ b → exchanged a b x ≡ x
ex-other a b x ne ne2 = with_at-other a b (with_at b a (λ y. y)) x ne
    ∙ with_at-other b a (λ y. y) x ne2

ex-second : (a b x : ℕ) → x ≡ b → exchanged a b x ≡ a
ex-second a b x e = elim (cases_eq x a) [
  | inl same ↦ ex-first a b x same ∙ (sym e ∙ same)
  | inr ne ↦ with_at-other a b (with_at b a (λ y. y)) x ne ∙ with_at-same b a (λ y. y) x e
]

ex-inside : (t a b x : ℕ) → a < t → b < t → x < t → exchanged a b x < t
ex-inside t a b x a-in b-in x-in = elim (cases_eq x a) [
  | inl e ↦ rw (ex-first a b x e) b-in
  | inr ne ↦ elim (cases_eq x b) [
    | inl e ↦ rw (ex-second a b x e) a-in
    | inr ne2 ↦ rw (ex-other a b x ne ne2) x-in
  ]
]

ex-twice : (a b x : ℕ) → exchanged a b (exchanged a b x) ≡ x
ex-twice a b x = elim (cases_eq x a) [
  | inl e ↦ ex-second a b (exchanged a b x) (ex-first a b x e) ∙ sym e
  | inr ne ↦ elim (cases_eq x b) [
    | inl e ↦ ex-first a b (exchanged a b x) (ex-second a b x e) ∙ sym e
    | inr ne2 ↦
        let same = ex-other a b x ne ne2 in
        ap (λ y. exchanged a b y) same ∙ same
  ]
]

-- after an exchange the nodes are in rings again
pub exchange-inverse : (t a b : ℕ) (next previous next' previous' : ℕ → ℕ) → a < t → b < t
    → AreInverse t next previous →
    IsExchanged t a b next previous next' previous' → AreInverse t next' previous'
exchange-inverse t a b next previous next' previous' a-in b-in old new = record {
  next_inside =
      λ x inside. rw (new.next_is x inside)
      (old.next_inside (exchanged a b x) (ex-inside t a b x a-in b-in inside));
  previous_inside =
      λ x inside. rw (new.previous_is x inside)
      (ex-inside t a b (previous x) a-in b-in (old.previous_inside x inside));
  back = λ x inside.
      let x' = exchanged a b x in
      let x'-in = ex-inside t a b x a-in b-in inside in
      let y-in = old.next_inside x' x'-in in
      ap (λ y. previous' y) (new.next_is x inside)
      ∙ (new.previous_is (next x') y-in
      ∙ (ap (λ y. exchanged a b y) (old.back x' x'-in) ∙ ex-twice a b x));
  forth = λ x inside.
      let y = exchanged a b (previous x) in
      let y-in = ex-inside t a b (previous x) a-in b-in (old.previous_inside x inside) in
      ap (λ z. next' z) (new.previous_is x inside)
      ∙ (new.next_is y y-in
      ∙ (ap (λ z. next z) (ex-twice a b (previous x)) ∙ old.forth x inside));
}

-- the place of one node is another one
pub record IsMoved (k v : ℕ) (place place' : ℕ → ℕ) : Type 0 where
  pub own : place' k ≡ v
  pub others : (x : ℕ) → x ≢ k → place' x ≡ place x

-- the node is behind itself, once what is behind it and before it is exchanged
pub alone-next : (t k : ℕ) (next previous next' previous' : ℕ → ℕ) → k < t
    → AreInverse t next previous →
    IsExchanged t (previous k) k next previous next' previous' → next' k ≡ k
alone-next t k next previous next' previous' inside old new =
    new.next_is k inside ∙ (ap (λ x. next x) (ex-second (previous k) k k refl) ∙ old.forth k inside)

pub alone-previous : (t k : ℕ) (next previous next' previous' : ℕ → ℕ) → k < t
    → AreInverse t next previous →
    IsExchanged t (previous k) k next previous next' previous' → previous' k ≡ k
alone-previous t k next previous next' previous' inside old new =
    new.previous_is k inside ∙ ex-first (previous k) k (previous k) refl

taken-alike : (t k : ℕ) (place place' next previous rank next' previous' : ℕ → ℕ) → k < t
    → AreRings t place next previous rank →
    IsExchanged t (previous k) k next previous next' previous' → IsMoved k 128 place place' →
    (x : ℕ) → x < t → place' (next' x) ≡ place' x
taken-alike t k place place' next previous rank next' previous' k-in old new moved x inside =
    let inv = old.inverse in
    elim (cases_eq x k) [
      | inl e ↦ subst (λ y. place' (next' y) ≡ place' y) (sym e)
          (ap (λ y. place' y) (alone-next t k next previous next' previous' k-in inv new))
      | inr ne ↦ elim (cases_eq x (previous k)) [
        | inl ep ↦
            let after : next' x ≡ next k = new.next_is x inside
            ∙ ap (λ y. next y) (ex-first (previous k) k x ep) in
            let other : next k ≢ k =
            λ same. ne (ep ∙ (ap (λ y. previous y) (sym same) ∙ inv.back k k-in)) in
            let before : place k ≡ place x = ap (λ y. place y) (sym (inv.forth k k-in))
            ∙ (old.alike (previous k) (inv.previous_inside k k-in) ∙ ap (λ y. place y) (sym ep))
            in
            ap (λ y. place' y) after
            ∙ (moved.others (next k) other
            ∙ (old.alike k k-in ∙ (before ∙ sym (moved.others x ne))))
        | inr np ↦
            let after : next' x ≡ next x = new.next_is x inside
            ∙ ap (λ y. next y) (ex-other (previous k) k x np ne) in
            let other : next x ≢ k =
            λ same. np (sym (inv.back x inside) ∙ ap (λ y. previous y) same) in
            ap (λ y. place' y) after
            ∙ (moved.others (next x) other ∙ (old.alike x inside ∙ sym (moved.others x ne)))
      ]
    ]

taken-ranked : (t k : ℕ) (place place' next previous rank next' previous' : ℕ → ℕ) → k < t → 128 ≤ k
    → AreRings t place next previous rank →
    IsExchanged t (previous k) k next previous next' previous' → IsMoved k 128 place place' →
    (x : ℕ) → x < t → 128 ≤ x → place' x < 128 → rank (previous' x) < rank x
taken-ranked t k place place' next previous rank next' previous' k-in k-key old new moved x inside
    key small =
    let inv = old.inverse in
    let ne : x ≢ k = λ e. absurd (omega (arith, small, ap (λ y. place' y) e, moved.own)) in
    let in-place : place x < 128 = omega (arith, small, moved.others x ne) in
    let here = old.ranked x inside key in-place in
    elim (cases_eq (previous x) k) [
      | inl e ↦
          let same : place k ≡ place x = ap (λ y. place y) (sym e)
          ∙ (sym (old.alike (previous x) (inv.previous_inside x inside))
          ∙ ap (λ y. place y) (inv.forth x inside)) in
          let up = old.ranked k k-in k-key (omega (arith, same, in-place)) in
          let down : rank (previous x) ≡ rank k = ap (λ y. rank y) e in
          let after : previous' x ≡ previous k = new.previous_is x inside
          ∙ ex-second (previous k) k (previous x) e in
          rw after (omega (arith, up, down, here))
      | inr n ↦
          let np : previous x ≢ previous k =
          λ e. ne (sym (inv.forth x inside) ∙ (ap (λ y. next y) e ∙ inv.forth k k-in)) in
          let after : previous' x ≡ previous x = new.previous_is x inside
          ∙ ex-other (previous k) k (previous x) np n in
          rw after here
    ]

-- a key is taken out of its ring
pub taken-out : (t k : ℕ) (place place' next previous rank next' previous' : ℕ → ℕ) → k < t
    → 128 ≤ k → AreRings t place next previous rank →
    IsExchanged t (previous k) k next previous next' previous' → IsMoved k 128 place place'
    → AreRings t place' next' previous' rank
taken-out t k place place' next previous rank next' previous' k-in k-key old new moved = record {
  inverse =
      exchange-inverse t (previous k) k next previous next' previous'
      (old.inverse.previous_inside k k-in) k-in old.inverse new;
  alike = taken-alike t k place place' next previous rank next' previous' k-in old new moved;
  heads = λ x head. let ne : x ≢ k = omega (arith, head, k-key) in moved.others x ne
      ∙ old.heads x head;
  ranked =
      taken-ranked t k place place' next previous rank next' previous' k-in k-key old new moved;
}

-- the ranks once a key is put behind a head
abbrev pub rank_put : ℕ → ℕ → (ℕ → ℕ) → ℕ → ℕ
rank_put s k rank = with_at k (2 * rank s + 1) (λ x. 2 * rank x)

put-alike : (t k s : ℕ) (place place' next previous rank next' previous' : ℕ → ℕ) → k < t → s < 128
    → 128 ≤ k → AreRings t place next previous rank →
    next k ≡ k → previous k ≡ k → IsExchanged t s k next previous next' previous'
    → IsMoved k s place place' →
    (x : ℕ) → x < t → place' (next' x) ≡ place' x
put-alike t k s place place' next previous rank next' previous' k-in head k-key old alone-n alone-p
    new moved x inside =
    let inv = old.inverse in
    let s-in : s < t = omega (arith, k-in, head, k-key) in
    let s-ne : s ≢ k = omega (arith, head, k-key) in
    elim (cases_eq x k) [
      | inl e ↦
          let after : next' x ≡ next s = new.next_is x inside
          ∙ ap (λ y. next y) (ex-second s k x e) in
          let other : next s ≢ k =
          λ same. s-ne (sym (inv.back s s-in) ∙ (ap (λ y. previous y) same ∙ alone-p)) in
          ap (λ y. place' y) after
          ∙ (moved.others (next s) other
          ∙ (old.alike s s-in
          ∙ (old.heads s head ∙ (sym moved.own ∙ ap (λ y. place' y) (sym e)))))
      | inr ne ↦ elim (cases_eq x s) [
        | inl es ↦
            let after : next' x ≡ k = new.next_is x inside
            ∙ (ap (λ y. next y) (ex-first s k x es) ∙ alone-n) in
            ap (λ y. place' y) after
            ∙ (moved.own
            ∙ (sym (old.heads s head) ∙ (ap (λ y. place y) (sym es) ∙ sym (moved.others x ne))))
        | inr ns ↦
            let after : next' x ≡ next x = new.next_is x inside
            ∙ ap (λ y. next y) (ex-other s k x ns ne) in
            let other : next x ≢ k =
            λ same. ne (sym (inv.back x inside) ∙ (ap (λ y. previous y) same ∙ alone-p)) in
            ap (λ y. place' y) after
            ∙ (moved.others (next x) other ∙ (old.alike x inside ∙ sym (moved.others x ne)))
      ]
    ]

put-ranked : (t k s : ℕ) (place place' next previous rank next' previous' : ℕ → ℕ) → k < t → s < 128
    → 128 ≤ k → AreRings t place next previous rank →
    next k ≡ k → previous k ≡ k → IsExchanged t s k next previous next' previous'
    → IsMoved k s place place' →
    (x : ℕ) → x < t → 128 ≤ x → place' x < 128
    → rank_put s k rank (previous' x) < rank_put s k rank x
put-ranked t k s place place' next previous rank next' previous' k-in head k-key old alone-n alone-p
    new moved x inside key small =
    let inv = old.inverse in
    let s-ne : s ≢ k = omega (arith, head, k-key) in
    let f : ℕ → ℕ = λ y. 2 * rank y in
    let v = 2 * rank s + 1 in
    elim (cases_eq x k) [
      | inl e ↦
          let before : previous x ≡ k = ap (λ y. previous y) e ∙ alone-p in
          let after : previous' x ≡ s = new.previous_is x inside
          ∙ ex-second s k (previous x) before in
          let low : rank_put s k rank (previous' x) ≡ 2 * rank s =
          ap (λ y. rank_put s k rank y) after ∙ with_at-other k v f s s-ne in
          let high : rank_put s k rank x ≡ v = with_at-same k v f x e in
          rw (low, high) (omega arith)
      | inr ne ↦
          let in-place : place x < 128 = omega (arith, small, moved.others x ne) in
          let here = old.ranked x inside key in-place in
          let n : previous x ≢ k =
          λ e. ne (sym (inv.forth x inside) ∙ (ap (λ y. next y) e ∙ alone-n)) in
          let high : rank_put s k rank x ≡ 2 * rank x = with_at-other k v f x ne in
          elim (cases_eq (previous x) s) [
            | inl es ↦
                let after : previous' x ≡ k = new.previous_is x inside
                ∙ ex-first s k (previous x) es in
                let low : rank_put s k rank (previous' x) ≡ v =
                with_at-same k v f (previous' x) after in
                let rank-s : rank (previous x) ≡ rank s = ap (λ y. rank y) es in
                rw (low, high) (omega (arith, here, rank-s))
            | inr ns ↦
                let after : previous' x ≡ previous x = new.previous_is x inside
                ∙ ex-other s k (previous x) ns n in
                let low : rank_put s k rank (previous' x) ≡ 2 * rank (previous x) =
                ap (λ y. rank_put s k rank y) after ∙ with_at-other k v f (previous x) n in
                rw (low, high) (omega (arith, here))
          ]
    ]

-- a key that is in no ring but its own is put behind a head
pub put-in : (t k s : ℕ) (place place' next previous rank next' previous' : ℕ → ℕ) → k < t → s < 128
    → 128 ≤ k → AreRings t place next previous rank →
    next k ≡ k → previous k ≡ k → IsExchanged t s k next previous next' previous'
    → IsMoved k s place place' →
    AreRings t place' next' previous' (rank_put s k rank)
put-in t k s place place' next previous rank next' previous' k-in head k-key old alone-n alone-p new
    moved = record {
      inverse =
          exchange-inverse t s k next previous next' previous' (omega (arith, k-in, head, k-key))
          k-in
          old.inverse new;
      alike = put-alike t k s place place' next previous rank next' previous' k-in head k-key old
          alone-n alone-p new moved;
      heads = λ x small. let ne : x ≢ k = omega (arith, small, k-key) in moved.others x ne
          ∙ old.heads x small;
      ranked =
          put-ranked t k s place place' next previous rank next' previous' k-in head k-key old
          alone-n
          alone-p new moved;
    }

-- a head with itself behind it has no key
pub none-behind : (t s : ℕ) (place next previous rank : ℕ → ℕ) → AreRings t place next previous rank
    → s < 128 → next s ≡ s →
    (fuel x : ℕ) → rank x < fuel → x < t → 128 ≤ x → place x ≢ s
none-behind t s place next previous rank rings head alone zero x few inside key =
    absurd (omega (arith, few))
none-behind t s place next previous rank rings head alone (suc fuel) x few inside key = λ e.
    let inv = rings.inverse in
    let p-in = inv.previous_inside x inside in
    let up = rings.ranked x inside key (omega (arith, e, head)) in
    let same : place (previous x) ≡ s = sym (rings.alike (previous x) p-in)
    ∙ (ap (λ y. place y) (inv.forth x inside) ∙ e) in
    elim (cases_lt (previous x) 128) [
      | inl small ↦
          let p-is : previous x ≡ s = sym (rings.heads (previous x) small) ∙ same in
          let x-is : x ≡ s = sym (inv.forth x inside) ∙ (ap (λ y. next y) p-is ∙ alone) in
          absurd (omega (arith, x-is, head, key))
      | inr large ↦ none-behind t s place next previous rank rings head alone fuel (previous x)
          (omega (arith, up, few)) p-in large same
    ]

-- what is behind a head, if not itself, is a key of its place
pub key-behind : (t s : ℕ) (place next previous rank : ℕ → ℕ) → AreRings t place next previous rank
    → s < 128 → s < t → next s ≢ s → 128 ≤ next s
key-behind t s place next previous rank rings head s-in other =
    elim (cases_lt (next s) 128) [
      | inl small ↦ absurd
          (other (sym (rings.heads (next s) small) ∙ (rings.alike s s-in ∙ rings.heads s head)))
      | inr large ↦ large
    ]

moved-set : (places : List ℕ) (k v : ℕ) → k < length places
    → IsMoved k v (at_node places) (at_node (slice_set places k v))
moved-set places k v inside = record {
  own = get_or-set_same places k v 0 inside;
  others = λ x ne. get_or-set_other places k x v 0 ne;
}

moved-with : (places : List ℕ) (k v : ℕ)
    → IsMoved k v (at_node places) (with_at k v (at_node places))
moved-with places k v = record {
  own = with_at-same k v (at_node places) k refl;
  others = λ x ne. with_at-other k v (at_node places) x ne;
}

moved-again : (places : List ℕ) (k w v : ℕ) → k < length places
    → IsMoved k v (with_at k w (at_node places)) (at_node (slice_set places k v))
moved-again places k w v inside = record {
  own = get_or-set_same places k v 0 inside;
  others = λ x ne. get_or-set_other places k x v 0 ne
      ∙ sym (with_at-other k w (at_node places) x ne);
}

-- a key is taken out of its ring, and is in no other one
pub linked-out : (places next previous next' previous' : List ℕ) (k : ℕ)
    → AreLinked places next previous → 128 ≤ k → k < length next →
    IsExchanged (length next) (get_or previous k 0) k (at_node next) (at_node previous)
    (at_node next') (at_node previous') →
    length next' ≡ length next → length previous' ≡ length next
    → AreLinked (slice_set places k 128) next' previous'
linked-out places next previous next' previous' k old key inside new next-len previous-len =
    let len = length-set places k 128 in
    let total = old.next_len in
    let k-in : k < length places = omega (arith, inside, total) in
    let exchanged =
    subst (λ t. IsExchanged t (get_or previous k 0) k (at_node next) (at_node previous)
    (at_node next') (at_node previous')) total new in
    let heads = old.heads_inside in record {
      next_len = next-len ∙ (total ∙ sym len);
      previous_len = previous-len ∙ (total ∙ sym len);
      heads_inside = omega (arith, len, heads);
      rank = old.rank;
      rings = subst
          (λ t. AreRings t (at_node (slice_set places k 128)) (at_node next') (at_node previous')
          old.rank) (sym len)
          (taken-out (length places) k (at_node places) (at_node (slice_set places k 128))
          (at_node next) (at_node previous) old.rank (at_node next') (at_node previous')
          k-in key old.rings exchanged (moved-set places k 128 k-in));
    }

-- a key is taken out of its ring, and put behind a head
pub linked-in : (places next previous next' previous' next'' previous'' : List ℕ) (k s : ℕ)
    → AreLinked places next previous → 128 ≤ k → k < length next → s < 128 →
    IsExchanged (length next) (get_or previous k 0) k (at_node next) (at_node previous)
    (at_node next') (at_node previous') →
    IsExchanged (length next) s k (at_node next') (at_node previous') (at_node next'')
    (at_node previous'') →
    length next'' ≡ length next → length previous'' ≡ length next
    → AreLinked (slice_set places k s) next'' previous''
linked-in places next previous next' previous' next'' previous'' k s old key inside head first
    second next-len previous-len =
    let len = length-set places k s in
    let total = old.next_len in
    let k-in : k < length places = omega (arith, inside, total) in
    let first' =
    subst (λ t. IsExchanged t (get_or previous k 0) k (at_node next) (at_node previous)
    (at_node next') (at_node previous')) total first in
    let second' =
    subst (λ t. IsExchanged t s k (at_node next') (at_node previous') (at_node next'')
    (at_node previous'')) total second in
    let inv = old.rings.inverse in
    let out =
    taken-out (length places) k (at_node places) (with_at k 128 (at_node places)) (at_node next)
    (at_node previous) old.rank (at_node next') (at_node previous')
    k-in key old.rings first' (moved-with places k 128)
    in
    let alone-n =
    alone-next (length places) k (at_node next) (at_node previous) (at_node next')
    (at_node previous') k-in inv first' in
    let alone-p =
    alone-previous (length places) k (at_node next) (at_node previous) (at_node next')
    (at_node previous') k-in inv first' in
    let heads = old.heads_inside in record {
      next_len = next-len ∙ (total ∙ sym len);
      previous_len = previous-len ∙ (total ∙ sym len);
      heads_inside = omega (arith, len, heads);
      rank = rank_put s k old.rank;
      rings = subst
          (λ t. AreRings t (at_node (slice_set places k s)) (at_node next'') (at_node previous'')
          (rank_put s k old.rank)) (sym len)
          (put-in (length places) k s (with_at k 128 (at_node places))
          (at_node (slice_set places k s)) (at_node next') (at_node previous') old.rank
          (at_node next'') (at_node previous'')
          k-in head key out alone-n alone-p second' (moved-again places k 128 s k-in));
    }

-- each node is in a ring of its own, and no key has a place
pub linked-new : (places next previous : List ℕ) → length next ≡ length places
    → length previous ≡ length places → 128 ≤ length places →
    ((x : ℕ) → x < length next → at_node next x ≡ x)
    → ((x : ℕ) → x < length previous → at_node previous x ≡ x) →
    ((x : ℕ) → x < 128 → at_node places x ≡ x)
    → ((x : ℕ) → x < length places → 128 ≤ x → at_node places x ≡ 128)
    → AreLinked places next previous
linked-new places next previous next-len previous-len heads next-own previous-own places-own out =
    let n : (x : ℕ) → x < length places → at_node next x ≡ x =
    λ x h. next-own x (omega (arith, h, next-len)) in
    let p : (x : ℕ) → x < length places → at_node previous x ≡ x =
    λ x h. previous-own x (omega (arith, h, previous-len)) in record {
      next_len = next-len;
      previous_len = previous-len;
      heads_inside = heads;
      rank = λ x. 0;
      rings = record {
        inverse = record {
          next_inside = λ x h. let e = n x h in omega (arith, e, h);
          previous_inside = λ x h. let e = p x h in omega (arith, e, h);
          back = λ x h. ap (λ y. at_node previous y) (n x h) ∙ p x h;
          forth = λ x h. ap (λ y. at_node next y) (p x h) ∙ n x h;
        };
        alike = λ x h. ap (λ y. at_node places y) (n x h);
        heads = places-own;
        ranked = λ x h key small. let e = out x h key in absurd (omega (arith, e, small));
      };
    }

-- a list with nothing behind its head has no key
pub none-linked : (places next previous : List ℕ) → AreLinked places next previous → (s : ℕ)
    → s < 128 → get_or next s 0 ≡ s →
    (x : ℕ) → x < length places → 128 ≤ x → get_or places x 0 ≢ s
none-linked places next previous linked s head alone x inside key =
    none-behind (length places) s (at_node places) (at_node next) (at_node previous) linked.rank
    linked.rings head alone (linked.rank x + 1) x (omega arith) inside key

-- what is behind a head is a key of its place
pub key-linked : (places next previous : List ℕ) → AreLinked places next previous → (s : ℕ)
    → s < 128 → get_or next s 0 ≢ s → 128 ≤ get_or next s 0
key-linked places next previous linked s head other =
    let heads = linked.heads_inside in
    key-behind (length places) s (at_node places) (at_node next) (at_node previous) linked.rank
    linked.rings head (omega (arith, heads, head)) other

-- what is behind the head of a place, a key or the head itself, is of that place
pub place-linked : (places next previous : List ℕ) → AreLinked places next previous → (s : ℕ)
    → s < 128 → get_or places (get_or next s 0) 0 ≡ s
place-linked places next previous linked s head =
    let heads = linked.heads_inside in
    linked.rings.alike s (omega (arith, heads, head)) ∙ linked.rings.heads s head
