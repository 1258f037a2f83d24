-- What is written is read back, and what is read is what stands there.
use Rattle.std.specs.Prelude.{ℕ, ◌≡◌, ◌≢◌, ◌↔◌, ◌⊎◌, ◌+◌, ◌-◌, ◌<◌, ◌≤◌, zero, suc, Bool, true}
use Rattle.std.specs.Prelude.{false, List, [], ◌∷◌, ◌++◌, length, take, drop, map, filter, get_or}
use Rattle.std.specs.Prelude.{AllPairs, Contains, Ok}
use Rattle.std.specs.List.{AllByRecursion}
use Rattle.std.proofs.Common.{arith, ap, refl, sym, ◌∙◌, subst, inl, inr}
use Rattle.std.proofs.lemmas.Bool.{cases_Bool, false_from_ne_true, true≢false}
use Rattle.std.proofs.lemmas.List.{append_assoc, length-append, length-take-le, take-append-drop}
use Rattle.std.proofs.lemmas.List.{drop_at}
use Rattle.std.proofs.lemmas.List.Elements.{Contains-get_or}
use Rattle.schc_ids.specs.declared.ends.Direction.{Direction}
use Rattle.schc_ids.specs.declared.ends.Iids.{Iids}
use Rattle.schc_ids.specs.declared.faults.UnpackFault.{UnpackFault}
use Rattle.schc_ids.specs.declared.faults.UnpackFault.TheVariants.{UnknownRule, BadResidue}
use Rattle.schc_ids.specs.declared.faults.UnpackFault.TheVariants.{BadPacket, Memory}
use Rattle.schc_ids.specs.declared.names.FieldAt.{FieldAt}
use Rattle.schc_ids.specs.Ends.{covers}
use Rattle.rule_model.specs.declared.value.FieldValue.{FieldValue}
use Rattle.rule_model.specs.Data.{EntryData, RuleData}
use Rattle.rule_model.specs.Cover.{covered, field_of, stack_of}
use Rattle.rule_model.specs.Findings.{IsAdmitted}
use Rattle.rule_model.specs.Residue.{same_field, value_of, residue_of, restored_value}
use Rattle.rule_model.specs.Residue.{restored_field, WidthHolds, IsSendable, IsSized}
use Rattle.rule_model.proofs.SizedLemmas.{same_field-true, same_field-itself, Contains-first}
use Rattle.rule_model.proofs.SizedLemmas.{Contains-rest}
use Rattle.rule_model.proofs.EntryRowsLemmas.{EntryHolds-from_IsAdmitted, InOrder-from_IsAdmitted}
use Rattle.rule_model.proofs.EntryRowsLemmas.{AreApart, AreApart-from_IsAdmitted}
use Rattle.decompress.specs.Reading.{restore_at}
use Rattle.decompress.specs.Refusals.{IsRefusal}
use Rattle.decompress.specs.Stands.{Stands, NoneStands}
use Rattle.decompress.proofs.EntryLemmas.{SentFits}
use Rattle.decompress.proofs.AlongLemmas.{kept, kept-used, kept-unused, IsSound, again-along}
use Rattle.decompress.proofs.TakesLemmas.{apart-kept, IsFresh-none, IsTaken, takes-along}
use Rattle.decompress.proofs.SoundLemmas.{Passes, Passes-from_EntryHolds, IsSound-from_Passes}
use Rattle.decompress.proofs.SoundLemmas.{IsSendable-from_sent, WidthHolds-from_sent}
use Rattle.decompress.proofs.SoundLemmas.{SentFits-from_sendable}

-- what holds of each element
pub all-from : {X : Type 0} → (P : X → Type 0) (xs : List X) → ((x : X) → Contains xs x → P x)
    → AllByRecursion P xs
all-from P [] h = tt
all-from P (x ∷ xs) h =
    (h x (Contains-first x xs), all-from P xs (λ y among. h y (Contains-rest x xs y among)))

all_place : {X : Type 0} → (P : X → Type 0) (xs : List X) → AllByRecursion P xs → (x : X) (k : ℕ)
    → k < length xs → get_or xs k x ≡ x → P x
all_place P [] h x k l e = absurd (omega arith)
all_place P (y ∷ xs) h x zero l e = subst P e h.0
all_place P (y ∷ xs) h x (suc k) l e = all_place P xs h.1 x k (omega arith) e

-- what holds all along a list holds of each element in it
pub all-at : {X : Type 0} → (P : X → Type 0) (xs : List X) → AllByRecursion P xs → (x : X)
    → Contains xs x → P x
all-at P xs h x among = all_place P xs h x among.0 among.1 among.2

-- an element that is kept by a test is one of the list, and passes
unfilter_first : {X : Type 0} → (test : X → Bool) (y : X) (xs : List X) (x : X) → test y ≡ true
    → ((k : ℕ) → k < length (filter test xs) → get_or (filter test xs) k x ≡ x → Contains xs x
    × (test x ≡ true)) → (k : ℕ) → k < length (y ∷ filter test xs)
    → get_or (y ∷ filter test xs) k x ≡ x → Contains (y ∷ xs) x × (test x ≡ true)
unfilter_first test y xs x t h zero l e =
    (subst (Contains (y ∷ xs)) e (Contains-first y xs), subst (λ z. test z ≡ true) e t)
unfilter_first test y xs x t h (suc k) l e = let later = h k (omega arith) e in
    (Contains-rest y xs x later.0, later.1)

unfilter_place : {X : Type 0} → (test : X → Bool) (xs : List X) (x : X) (k : ℕ)
    → k < length (filter test xs) → get_or (filter test xs) k x ≡ x → Contains xs x
    × (test x ≡ true)
unfilter_place test [] x k l e = absurd (omega arith)
unfilter_place {X} test (y ∷ xs) x k l e =
    elim (cases_Bool (test y)) [
      | inl t ↦
          let same : filter test (y ∷ xs) ≡ y ∷ filter test xs = rw t in
          unfilter_first test y xs x t (unfilter_place test xs x) k
          (subst (λ (zs : List X). k < length zs) same l)
          (subst (λ (zs : List X). get_or zs k x ≡ x) same e)
      | inr f ↦
          let same : filter test (y ∷ xs) ≡ filter test xs = rw f in
          let later =
          unfilter_place test xs x k (subst (λ (zs : List X). k < length zs) same l)
          (subst (λ (zs : List X). get_or zs k x ≡ x) same e) in
          (Contains-rest y xs x later.0, later.1)
    ]

-- an element of what a test keeps is one of the list, and passes the test
pub unfilter : {X : Type 0} → (test : X → Bool) (xs : List X) (x : X) → Contains (filter test xs) x
    → Contains xs x × (test x ≡ true)
unfilter test xs x among = unfilter_place test xs x among.0 among.1 among.2

-- an element of a mapped list is made of one
mapped_place : {X Y : Type 0} → (f : X → Y) (xs : List X) (y : Y) (k : ℕ) → k < length (map f xs)
    → get_or (map f xs) k y ≡ y → (x : X) × Contains xs x × (f x ≡ y)
mapped_place f [] y k l e = absurd (omega arith)
mapped_place f (x ∷ xs) y zero l e = (x, Contains-first x xs, e)
mapped_place f (x ∷ xs) y (suc k) l e = let later = mapped_place f xs y k (omega arith) e in
    (later.0, Contains-rest x xs later.0 later.1, later.2)

mapped_from : {X Y : Type 0} → (f : X → Y) (xs : List X) (y : Y) → Contains (map f xs) y → (x : X)
    × Contains xs x × (f x ≡ y)
mapped_from f xs y among = mapped_place f xs y among.0 among.1 among.2

map_place : {X Y : Type 0} → (f : X → Y) (xs : List X) (x : X) (k : ℕ) → k < length xs
    → get_or xs k x ≡ x → Contains (map f xs) (f x)
map_place f [] x k l e = absurd (omega arith)
map_place f (y ∷ xs) x zero l e =
    subst (λ z. Contains (map f (y ∷ xs)) (f z)) e (Contains-first (f y) (map f xs))
map_place f (y ∷ xs) x (suc k) l e =
    Contains-rest (f y) (map f xs) (f x) (map_place f xs x k (omega arith) e)

-- pairs of a list that begins with an element
pairs_at : {X : Type 0} → (R : X → X → Type 0) (x : X) (xs : List X)
    → ((y : X) → Contains xs y → R x y) → AllPairs R xs → (i j : ℕ) (d : X) → i < j
    → j < length (x ∷ xs) → R (get_or (x ∷ xs) i d) (get_or (x ∷ xs) j d)
pairs_at R x xs h k i zero d l m = absurd (omega arith)
pairs_at R x xs h k zero (suc j) d l m = h (get_or xs j d) (Contains-get_or xs j d (omega arith))
pairs_at R x xs h k (suc i) (suc j) d l m = k i j d (omega arith) (omega arith)

-- the restored fields are all of other names and positions
once_along : (iids : Iids) (direction : Direction) (whole : List FieldValue)
    (entries : List EntryData) → AreApart entries
    → AllPairs (λ f g. f.at ≢ g.at) (map (restored_field iids whole) (kept direction entries))
once_along iids direction whole [] apart = λ i j d l m. absurd (omega arith)
once_along iids direction whole (e ∷ later) apart =
    let rest : AllPairs (λ f g. f.at ≢ g.at)
    (map (restored_field iids whole) (kept direction later)) =
    once_along iids direction whole later apart.1 in
    elim (cases_Bool (covers e.direction direction)) [
      | inl t ↦
          let others : AllByRecursion (λ d. same_field (field_of e) (field_of d) ≡ false)
          (kept direction later) = apart-kept direction e later apart t in
          let first : (g : FieldValue)
          → Contains (map (restored_field iids whole) (kept direction later)) g
          → field_of e ≢ g.at =
          λ g among same.
          let m = mapped_from (restored_field iids whole) (kept direction later) g among in
          let equal : field_of e ≡ field_of m.0 = same ∙ ap (λ (h : FieldValue). h.at) (sym m.2) in
          let passes : same_field (field_of e) (field_of m.0) ≡ true =
          subst (λ (at : FieldAt). same_field (field_of e) at ≡ true) equal
          (same_field-itself (field_of e)) in
          true≢false
          (sym passes
          ∙ all-at (λ d. same_field (field_of e) (field_of d) ≡ false) (kept direction later)
          others m.0 m.1)
          in
          subst (λ entries. AllPairs (λ f g. f.at ≢ g.at) (map (restored_field iids whole) entries))
          (sym (kept-used direction e later t))
          (pairs_at (λ f g. f.at ≢ g.at) (restored_field iids whole e)
          (map (restored_field iids whole) (kept direction later)) first rest)
      | inr f ↦
          subst (λ entries. AllPairs (λ f g. f.at ≢ g.at) (map (restored_field iids whole) entries))
          (sym (kept-unused direction e later f)) rest
    ]

-- each entry that is used is admitted
pub passes-at : (rule : RuleData) (direction : Direction) → IsAdmitted rule → (e : EntryData)
    → Contains (covered rule direction) e → Passes (stack_of rule) e
passes-at rule direction admitted e among =
    Passes-from_EntryHolds (stack_of rule) e
    (EntryHolds-from_IsAdmitted rule admitted e
    (unfilter (λ d. covers d.direction direction) rule.entries e among).0)

-- each entry of an admitted rule is as reading needs it
pub sound-all : (rule : RuleData) → IsAdmitted rule → AllByRecursion IsSound rule.entries
sound-all rule admitted =
    all-from IsSound rule.entries
    (λ e among. IsSound-from_Passes (stack_of rule) e
    (Passes-from_EntryHolds (stack_of rule) e
    (EntryHolds-from_IsAdmitted rule admitted e among)))

-- what is read is sized
sized_taken : (rule : RuleData) (iids : Iids) (direction : Direction) (bits : List Bool)
    (whole : List FieldValue) (rest : List Bool) → IsAdmitted rule
    → IsTaken iids direction [] rule.entries bits whole rest → IsSized rule direction whole
sized_taken rule iids direction bits whole rest admitted taken =
    let value : EntryData → List Bool = λ e. value_of whole (field_of e) in
    let made : (f : FieldValue) → Contains whole f → (e : EntryData)
    × Contains (covered rule direction) e × (restored_field iids whole e ≡ f) =
    λ f among. mapped_from (restored_field iids whole) (covered rule direction) f
    (subst (λ (all : List FieldValue). Contains all f) taken.restored among)
    in
    let fits : (e : EntryData) → Contains (covered rule direction) e → SentFits whole e (value e) =
    λ e among. all-at (λ d. SentFits whole d (value d)) (covered rule direction) taken.fits e among
    in
    let stays : (e : EntryData) → Contains (covered rule direction) e
    → restored_value iids e (value e) ≡ value e =
    λ e among. all-at (λ d. restored_value iids d (value d) ≡ value d) (covered rule direction)
    taken.stays e among
    in
    record {
      each_once =
          subst (AllPairs (λ f g. f.at ≢ g.at)) (sym taken.restored)
          (once_along iids direction whole rule.entries (AreApart-from_IsAdmitted rule admitted));
      width_holds =
          λ f among.
          let m = made f among in
          let own : WidthHolds m.0.name (value m.0) =
          WidthHolds-from_sent iids whole (stack_of rule) m.0 (value m.0)
          (passes-at rule direction admitted m.0 m.1) (fits m.0 m.1) (stays m.0 m.1) in
          subst (λ (g : FieldValue). WidthHolds g.at.name g.value) m.2
          (subst (WidthHolds m.0.name) (sym (stays m.0 m.1)) own);
      sendable =
          λ f e among used at.
          let m = made f among in
          let same : field_of e ≡ field_of m.0 = at ∙ ap (λ (g : FieldValue). g.at) (sym m.2) in
          let its : value e ≡ f.value = ap (value_of whole) same ∙ sym (stays m.0 m.1)
          ∙ ap (λ (g : FieldValue). g.value) m.2 in
          subst (IsSendable whole e) its
          (IsSendable-from_sent iids whole (stack_of rule) e (value e)
          (passes-at rule direction admitted e used) (fits e used) (stays e used));
    }

-- what is read stands there
pub Stands-from_read : (rule : RuleData) (iids : Iids) (direction : Direction)
    (fields : List FieldValue) (bits rest : List Bool) → IsAdmitted rule
    → restore_at rule iids direction bits ≡ Ok (fields, rest)
    → Stands rule iids direction fields bits rest
Stands-from_read rule iids direction fields bits rest admitted e =
    let taken : IsTaken iids direction [] rule.entries bits fields rest =
    takes-along iids direction 1 [] rule.entries bits fields rest
    (InOrder-from_IsAdmitted rule admitted) (AreApart-from_IsAdmitted rule admitted)
    (sound-all rule admitted) (IsFresh-none (covered rule direction)) e
    in
    record {
      sized = sized_taken rule iids direction bits fields rest admitted taken;
      restored = taken.restored;
      bits_are = taken.bits_are;
    }

-- a field that is there is found
there_place : (fields : List FieldValue) (at : FieldAt) (f : FieldValue) (k : ℕ) → k < length fields
    → get_or fields k f ≡ f → f.at ≡ at → (g : FieldValue) × Contains fields g × (g.at ≡ at)
    × (value_of fields at ≡ g.value)
there_place [] at f k l e a = absurd (omega arith)
there_place (g ∷ fields) at f zero l e a =
    let same : g.at ≡ at = ap (λ (h : FieldValue). h.at) e ∙ a in
    let passes : same_field g.at at ≡ true =
    subst (λ (b : FieldAt). same_field g.at b ≡ true) same (same_field-itself g.at) in
    (g, Contains-first g fields, same, rw passes refl)
there_place (g ∷ fields) at f (suc k) l e a =
    elim (cases_Bool (same_field g.at at)) [
      | inl t ↦ (g, Contains-first g fields, same_field-true g.at at t, rw t refl)
      | inr n ↦
          let later = there_place fields at f k (omega arith) e a in
          (later.0, Contains-rest g fields later.0 later.1, later.2, rw n later.3)
    ]

-- the value of a field that is there is that of one with the same name and position
pub value_of-there : (fields : List FieldValue) (f : FieldValue) → Contains fields f
    → (g : FieldValue) × Contains fields g × (g.at ≡ f.at) × (value_of fields f.at ≡ g.value)
value_of-there fields f among = there_place fields f.at f among.0 among.1 among.2 refl

-- the value of a field that is there can be sent by its entry
pub fits-at : (rule : RuleData) (direction : Direction) (fields : List FieldValue) → IsAdmitted rule
    → IsSized rule direction fields → (e : EntryData) → Contains (covered rule direction) e
    → (f : FieldValue) → Contains fields f → field_of e ≡ f.at
    → SentFits fields e (value_of fields (field_of e))
fits-at rule direction fields admitted sized e used f among at =
    let g = value_of-there fields f among in
    let its : g.0.value ≡ value_of fields (field_of e) = sym g.3 ∙ ap (value_of fields) (sym at) in
    let own : field_of e ≡ g.0.at = at ∙ sym g.2 in
    let width : WidthHolds e.name (value_of fields (field_of e)) =
    subst (WidthHolds e.name) its
    (subst (λ (b : FieldAt). WidthHolds b.name g.0.value) (sym own) (sized.width_holds g.0 g.1))
    in
    SentFits-from_sendable fields (stack_of rule) e (value_of fields (field_of e))
    (passes-at rule direction admitted e used) width
    (subst (IsSendable fields e) its (sized.sendable g.0 e g.1 used own))

-- what stands there is read
pub read-from_Stands : (rule : RuleData) (iids : Iids) (direction : Direction)
    (fields : List FieldValue) (bits rest : List Bool) → IsAdmitted rule
    → Stands rule iids direction fields bits rest
    → restore_at rule iids direction bits ≡ Ok (fields, rest)
read-from_Stands rule iids direction fields bits rest admitted stands =
    let there : (e : EntryData) → Contains (covered rule direction) e
    → Contains fields (restored_field iids fields e) =
    λ e used. subst (λ (all : List FieldValue). Contains all (restored_field iids fields e))
    (sym stands.restored)
    (map_place (restored_field iids fields) (covered rule direction) e used.0 used.1 used.2)
    in
    ap (restore_at rule iids direction) stands.bits_are
    ∙ again-along iids direction fields fields 1 [] rule.entries rest
    (InOrder-from_IsAdmitted rule admitted) (sound-all rule admitted)
    (all-from (λ e. SentFits fields e (value_of fields (field_of e))) (covered rule direction)
    (λ e used. fits-at rule direction fields admitted stands.sized e used
    (restored_field iids fields e) (there e used) refl))
    refl stands.restored

-- with an admitted rule, what is read is what stands there, and all that stands there is read
pub reads_exactly : (rule : RuleData) (iids : Iids) (direction : Direction)
    (fields : List FieldValue) (bits rest : List Bool) → IsAdmitted rule
    → (restore_at rule iids direction bits ≡ Ok (fields, rest)) ↔ Stands rule iids direction fields
    bits rest
reads_exactly rule iids direction fields bits rest admitted = (
  Stands-from_read rule iids direction fields bits rest admitted,
  read-from_Stands rule iids
      direction fields bits rest admitted,
)

-- the place of the bit after what is read
pub next-at : (rule : RuleData) (iids : Iids) (direction : Direction) (bits : List Bool) (from : ℕ)
    (start : List Bool) (fields : List FieldValue) (rest : List Bool) → IsAdmitted rule
    → start ≡ drop from bits → restore_at rule iids direction start ≡ Ok (fields, rest)
    → from ≤ length bits → (length rest ≤ length bits) × (from ≤ length bits - length rest)
    × (drop (length bits - length rest) bits ≡ rest)
next-at rule iids direction bits from start fields rest admitted s e h =
    let sent : List Bool = residue_of rule direction fields in
    let stands : start ≡ sent ++ rest =
    (Stands-from_read rule iids direction fields start rest admitted e).bits_are in
    let whole : bits ≡ (take from bits ++ sent) ++ rest =
    sym (take-append-drop from bits) ∙ ap (λ more. take from bits ++ more) (sym s ∙ stands)
    ∙ sym (append_assoc (take from bits) sent rest)
    in
    let front : length (take from bits ++ sent) ≡ from + length sent =
    length-append (take from bits) sent ∙ omega (arith, length-take-le from bits h) in
    let all : length bits ≡ length (take from bits ++ sent) + length rest = ap length whole
    ∙ length-append (take from bits ++ sent) rest in (
      omega arith,
      omega arith,
      ap (drop (length bits - length rest)) whole
          ∙ drop_at (take from bits ++ sent) rest (length bits - length rest) (omega arith),
    )

-- where nothing is read, nothing stands
pub NoneStands-from_refusal : (rule : RuleData) (iids : Iids) (direction : Direction)
    (bits start : List Bool) (fault : UnpackFault) → IsAdmitted rule → start ≡ bits
    → IsRefusal fault (restore_at rule iids direction start) → (fault ≡ Memory)
    ⊎ NoneStands rule iids direction bits
NoneStands-from_refusal rule iids direction bits start Memory admitted s h = inl refl
NoneStands-from_refusal rule iids direction bits start (BadResidue entry cause) admitted s h =
    inr
    (λ fields rest stands.
    let read : restore_at rule iids direction bits ≡ Ok (fields, rest) =
    read-from_Stands rule iids direction fields bits rest admitted stands in
    let same : restore_at rule iids direction start ≡ restore_at rule iids direction bits =
    ap (restore_at rule iids direction) s in
    cc)
NoneStands-from_refusal rule iids direction bits start (UnknownRule id) admitted s h = absurd h
NoneStands-from_refusal rule iids direction bits start (BadPacket at) admitted s h = absurd h

own_place : (fields : List FieldValue) (f : FieldValue) (k : ℕ)
    → AllPairs (λ g h. g.at ≢ h.at) fields → k < length fields → get_or fields k f ≡ f
    → value_of fields f.at ≡ f.value
own_place [] f k once l e = absurd (omega arith)
own_place (g ∷ fields) f zero once l e =
    let passes : same_field g.at f.at ≡ true =
    subst (λ (h : FieldValue). same_field g.at h.at ≡ true) e (same_field-itself g.at) in
    rw passes (ap (λ (h : FieldValue). h.value) e)
own_place (g ∷ fields) f (suc k) once l e =
    let differs : g.at ≢ f.at =
    subst (λ (h : FieldValue). g.at ≢ h.at) e (once 0 (suc k) f (omega arith) l) in
    let fails : same_field g.at f.at ≡ false =
    false_from_ne_true (same_field g.at f.at) (λ t. differs (same_field-true g.at f.at t)) in
    rw fails
    (own_place fields f k (λ i j d m n. once (suc i) (suc j) d (omega arith) (omega arith))
    (omega arith) e)

-- where no name and position stands twice, each field is found by its own, wherever it stands
pub value_of-own : (fields : List FieldValue) (f : FieldValue)
    → AllPairs (λ g h. g.at ≢ h.at) fields → Contains fields f → value_of fields f.at ≡ f.value
value_of-own fields f once among = own_place fields f among.0 once among.1 among.2
