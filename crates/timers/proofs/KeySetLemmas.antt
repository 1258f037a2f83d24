-- The root of the tree is the lowest key of the set.
use Rattle.std.proofs.Common.{arith, ◌⊎◌, ◌-◌, ◌^◌, sym, ap, refl, subst, ◌∙◌, ℕ, suc, zero, ◌≡◌}
use Rattle.std.proofs.Common.{◌≢◌, ◌+◌, ◌*◌, ◌/◌, ◌%◌, ◌<◌, ◌≤◌, inl, inr, Bool, true, false, List}
use Rattle.std.proofs.Common.{length, slice_set, get_or, get_or-set_same, get_or-set_other}
use Rattle.std.proofs.lemmas.Bool.{cases_lt, cases_eq}
use Rattle.std.proofs.lemmas.List.{get_or_past, length-set}
use Rattle.std.proofs.Math.Nat.{eq-or-lt_of_le}
use Rattle.timers.specs.KeySet.{IsLowerOf, IsTree, HasLeaves, leaf_of}

halves : (i : ℕ) → (2 * (i / 2) ≡ i) ⊎ (2 * (i / 2) + 1 ≡ i)
halves i = elim (cases_eq (i % 2) 0) [
  | inl e ↦ inl (omega (arith, e))
  | inr ne ↦ inr (omega (arith, ne))
]

-- the root is at most each node
root-least : (nodes : List ℕ) (n : ℕ) → IsTree nodes → length nodes ≡ 2 * n → (fuel i : ℕ)
    → i ≤ fuel → 1 ≤ i → i < 2 * n →
    get_or nodes 1 0 ≤ get_or nodes i 0
root-least nodes n tree len zero i few one inside = absurd (omega (arith, few, one))
root-least nodes n tree len (suc fuel) i few one inside =
    elim (eq-or-lt_of_le one) [
      | inl same ↦ subst (λ k. get_or nodes 1 0 ≤ get_or nodes k 0) same (omega arith)
      | inr more ↦
          let up =
          root-least nodes n tree len fuel (i / 2) (omega (arith, few, more))
          (omega (arith, more)) (omega (arith, inside)) in
          let here = tree.at (i / 2) (omega (arith, more)) (omega (arith, len, inside)) in
          let first = here.first in
          let second = here.second in
          elim (halves i) [
            | inl e ↦ subst (λ k. get_or nodes 1 0 ≤ get_or nodes k 0) e (omega (arith, up, first))
            | inr e ↦ subst (λ k. get_or nodes 1 0 ≤ get_or nodes k 0) e (omega (arith, up, second))
          ]
    ]

-- a number of the tree that is a key is in the set
abbrev IsIn : List Bool → ℕ → Type 0
IsIn members x = (x ≡ 4294967295) ⊎ (get_or members x false ≡ true)

leaf-in : (members : List Bool) (key : ℕ) (b : Bool) → get_or members key false ≡ b
    → IsIn members (leaf_of key b)
leaf-in members key true e = inr e
leaf-in members key false e = inl refl

node-in : (members : List Bool) (nodes : List ℕ) → IsTree nodes → HasLeaves members nodes
    → length nodes ≡ 2 * length members →
    (fuel i : ℕ) → 2 * length members ≤ i + fuel → 1 ≤ i → i < 2 * length members
    → IsIn members (get_or nodes i 0)
node-in members nodes tree leaves len zero i few one inside = absurd (omega (arith, few, inside))
node-in members nodes tree leaves len (suc fuel) i few one inside =
    elim (cases_lt i (length members)) [
      | inl inner ↦
          let here = tree.at i one (omega (arith, len, inner)) in
          elim here.one [
            | inl e ↦ subst (λ x. IsIn members x) (sym e)
                (node-in members nodes tree leaves len fuel (2 * i) (omega (arith, few, one))
                (omega (arith, one)) (omega (arith, inner)))
            | inr e ↦ subst (λ x. IsIn members x) (sym e)
                (node-in members nodes tree leaves len fuel (2 * i + 1) (omega (arith, few, one))
                (omega (arith, one)) (omega (arith, inner)))
          ]
      | inr outer ↦
          let key = i - length members in
          let place : length members + key ≡ i = omega (arith, outer) in
          let leaf = leaves.at key (omega (arith, outer, inside)) in
          subst (λ k. IsIn members (get_or nodes k 0)) place
          (subst (λ x. IsIn members x) (sym leaf)
          (leaf-in members key (get_or members key false) refl))
    ]

-- the root is a key of the set
pub root-in : (members : List Bool) (nodes : List ℕ) → IsTree nodes → HasLeaves members nodes
    → length nodes ≡ 2 * length members →
    0 < length members → get_or nodes 1 0 ≢ 4294967295
    → get_or members (get_or nodes 1 0) false ≡ true
root-in members nodes tree leaves len some ne =
    elim (node-in members nodes tree leaves len (2 * length members) 1 (omega arith) (omega arith)
    (omega (arith, some))) [
      | inl e ↦ absurd (ne e)
      | inr e ↦ e
    ]

below-root : (members : List Bool) (nodes : List ℕ) → IsTree nodes → HasLeaves members nodes
    → length nodes ≡ 2 * length members →
    (key : ℕ) (b : Bool) → get_or members key false ≡ b → key < get_or nodes 1 0
    → key < length members → b ≡ false
below-root members nodes tree leaves len key false e below inside = refl
below-root members nodes tree leaves len key true e below inside =
    let leaf = leaves.at key inside ∙ ap (λ b. leaf_of key b) e in
    let least =
    root-least nodes (length members) tree len (length members + key) (length members + key)
    (omega arith) (omega (arith, inside)) (omega (arith, inside)) in
    absurd (omega (arith, below, leaf, least))

-- no lower key is in the set
pub none-below : (members : List Bool) (nodes : List ℕ) → IsTree nodes → HasLeaves members nodes
    → length nodes ≡ 2 * length members →
    (key : ℕ) → key < get_or nodes 1 0 → get_or members key false ≡ false
none-below members nodes tree leaves len key below =
    elim (cases_lt key (length members)) [
      | inl inside ↦ below-root members nodes tree leaves len key (get_or members key false) refl
          below inside
      | inr past ↦ get_or_past members key false past
    ]

-- where the root is above all keys, none is in the set
pub none-in : (members : List Bool) (nodes : List ℕ) → IsTree nodes → HasLeaves members nodes
    → length nodes ≡ 2 * length members →
    length members < 2 ^ 32 → get_or nodes 1 0 ≡ 4294967295 → (key : ℕ)
    → get_or members key false ≡ false
none-in members nodes tree leaves len few e key =
    elim (cases_lt key (length members)) [
      | inl inside ↦ none-below members nodes tree leaves len key (omega (arith, inside, few, e))
      | inr past ↦ get_or_past members key false past
    ]

-- each node but one is the lower of those below it
pub record IsTreeBut (skip : ℕ) (nodes : List ℕ) : Type 0 where
  pub at : (i : ℕ) → 1 ≤ i → i ≢ skip → 2 * i + 1 < length nodes →
      IsLowerOf (get_or nodes i 0) (get_or nodes (2 * i) 0) (get_or nodes (2 * i + 1) 0)

pub leaf-put : (nodes : List ℕ) (leaf value : ℕ) → IsTree nodes → length nodes ≤ 2 * leaf
    → IsTreeBut (leaf / 2) (slice_set nodes leaf value)
leaf-put nodes leaf value tree behind = record {
  at = λ i one ne inside.
      let inner : 2 * i + 1 < length nodes =
      subst (λ n. 2 * i + 1 < n) (length-set nodes leaf value) inside in
      let i-ne : i ≢ leaf = omega (arith, inner, behind) in
      let a-ne : 2 * i ≢ leaf = omega (arith, ne) in
      let b-ne : 2 * i + 1 ≢ leaf = omega (arith, ne) in
      rw (
        get_or-set_other nodes leaf i value 0 i-ne,
        get_or-set_other nodes leaf (2 * i) value 0
            a-ne,
        get_or-set_other nodes leaf (2 * i + 1) value 0 b-ne,
      )
      (tree.at i one inner);
}

renewed-at : (nodes : List ℕ) (node value : ℕ) → IsTreeBut node nodes → 1 ≤ node
    → 2 * node + 1 < length nodes →
    IsLowerOf value (get_or nodes (2 * node) 0) (get_or nodes (2 * node + 1) 0) →
    (i : ℕ) → 1 ≤ i → i ≢ node / 2 → 2 * i + 1 < length nodes →
    IsLowerOf (get_or (slice_set nodes node value) i 0)
    (get_or (slice_set nodes node value) (2 * i) 0)
    (get_or (slice_set nodes node value) (2 * i + 1) 0)
renewed-at nodes node value tree low inside here i one ne inner =
    let a-ne : 2 * i ≢ node = omega (arith, ne) in
    let b-ne : 2 * i + 1 ≢ node = omega (arith, ne) in
    elim (cases_eq i node) [
      | inl e ↦
          let own : get_or (slice_set nodes node value) i 0 ≡ value =
          ap (λ k. get_or (slice_set nodes node value) k 0) e
          ∙ get_or-set_same nodes node value 0 (omega (arith, inside)) in
          rw (
            own,
            get_or-set_other nodes node (2 * i) value 0 a-ne,
            get_or-set_other nodes node
                (2 * i + 1) value 0 b-ne,
          )
          (subst (λ k. IsLowerOf value (get_or nodes (2 * k) 0) (get_or nodes (2 * k + 1) 0))
          (sym e) here)
      | inr i-ne ↦
          rw (
            get_or-set_other nodes node i value 0 i-ne,
            get_or-set_other nodes node (2 * i) value
                0 a-ne,
            get_or-set_other nodes node (2 * i + 1) value 0 b-ne,
          )
          (tree.at i one i-ne inner)
    ]

-- one node is renewed
pub node-renewed : (nodes : List ℕ) (node value : ℕ) → IsTreeBut node nodes → 1 ≤ node
    → 2 * node + 1 < length nodes →
    IsLowerOf value (get_or nodes (2 * node) 0) (get_or nodes (2 * node + 1) 0)
    → IsTreeBut (node / 2) (slice_set nodes node value)
node-renewed nodes node value tree low inside here = record {
  at = λ i one ne inner. renewed-at nodes node value tree low inside here i one ne
      (subst (λ n. 2 * i + 1 < n) (length-set nodes node value) inner);
}

-- there is no node 0
pub tree-whole : (nodes : List ℕ) → IsTreeBut 0 nodes → IsTree nodes
tree-whole nodes tree = record { at = λ i one inside. tree.at i one (omega (arith, one)) inside }

-- while the nodes above a leaf are renewed: each node but the next one is right, and of the leaves
-- one is put
pub record IsPut (old nodes : List ℕ) (node leaf value : ℕ) : Type 0 where
  pub tree : IsTreeBut node nodes
  pub inside : 2 * node + 1 < length nodes
  pub leaf_is : get_or nodes leaf 0 ≡ value
  pub others : (other : ℕ) → length old ≤ 2 * other → other ≢ leaf
      → get_or nodes other 0 ≡ get_or old other 0
  pub len : length nodes ≡ length old

pub put-first : (old : List ℕ) (leaf value : ℕ) → IsTree old → length old % 2 ≡ 0
    → length old ≤ 2 * leaf → leaf < length old →
    IsPut old (slice_set old leaf value) (leaf / 2) leaf value
put-first old leaf value tree even behind inside = record {
  tree = leaf-put old leaf value tree behind;
  inside = rw (length-set old leaf value) (omega (arith, even, behind, inside));
  leaf_is = get_or-set_same old leaf value 0 inside;
  others = λ other after ne. get_or-set_other old leaf other value 0 ne;
  len = length-set old leaf value;
}

pub put-next : (old nodes : List ℕ) (node leaf value low : ℕ) → length old ≤ 2 * leaf
    → IsPut old nodes node leaf value → 1 ≤ node →
    IsLowerOf low (get_or nodes (2 * node) 0) (get_or nodes (2 * node + 1) 0)
    → IsPut old (slice_set nodes node low) (node / 2) leaf value
put-next old nodes node leaf value low behind p one here =
    let inside = p.inside in
    let len = p.len in
    let leaf-ne : leaf ≢ node = omega (arith, behind, inside, len) in record {
      tree = node-renewed nodes node low p.tree one p.inside here;
      inside = rw (length-set nodes node low) (omega (arith, inside));
      leaf_is = get_or-set_other nodes node leaf low 0 leaf-ne ∙ p.leaf_is;
      others = λ other after ne.
          let other-ne : other ≢ node = omega (arith, after, inside, len) in
          get_or-set_other nodes node other low 0 other-ne ∙ p.others other after ne;
      len = length-set nodes node low ∙ p.len;
    }
