-- Lists by key, and what belongs to one key.
use Rattle.std.proofs.Common.{◌≡◌, ℕ, Bool, true, false, cond, List, [], ◌∷◌, ◌++◌, Some, unwrap_or}
use Rattle.std.proofs.Common.{refl, ap, subst, ◌∙◌, inl, inr}
use Rattle.std.specs.List.{AllByRecursion}
use Rattle.std.proofs.lemmas.List.{append-nil}
use Rattle.std.proofs.lemmas.List.Concat.{flat_map-append}
use Rattle.schc_ids.specs.PerDirection.{at_direction, put_direction}
use Rattle.schc_ids.specs.declared.ends.Direction.{Direction}
use Rattle.schc_ids.specs.declared.ends.Direction.TheVariants as way
use Rattle.tiles_bitmap.specs.Places.{Among}
use Rattle.sessions.specs.Keys.{SessionKey, Entry, found, entry, without, put_in}
use Rattle.sessions.specs.Keys as at_end
use Rattle.sessions.proofs.KeyLemmas.{same_key_refl, same_key_true, found_own, found-other}
use Rattle.event_data.specs.Records.{FrameData}
use Rattle.lanes.specs.Lane.{Msg, Begun}
use Rattle.lanes.proofs.ListLemmas.{among-after, all-append}
use Rattle.two_ends.specs.Keys.{Key, Keyed, same_key, piece, of_key, keyed}
use Rattle.two_ends.specs.Labels.{Mark, WholeFrame, MessageOf, Held, Labels, held_by, hold}
use Rattle.two_ends.specs.Labels.{nothing_held}
use Rattle.two_ends.specs.Lanes.{message_piece, messages}
use Rattle.two_ends.specs.Logs.{Began, begins_of}

-- a key that is compared with itself is the same
pub same_key-refl : (key : Key) → same_key key key ≡ true
unfolding same_key
same_key-refl key = way-refl key.way key.id
  where
    way-refl : (way : Direction) (id : SessionKey)
        → same_key (record { way = way; id = id }) (record { way = way; id = id }) ≡ true
    way-refl way.Up id = same_key_refl id
    way-refl way.Down id = same_key_refl id

key-parts : (a : Direction) (id : SessionKey) (b : Direction) (other : SessionKey)
    → same_key (record { way = a; id = id }) (record { way = b; id = other }) ≡ true
    → ◌≡◌ {A = Key} (record { way = a; id = id }) (record { way = b; id = other })
unfolding same_key
key-parts way.Up id way.Up other e =
    ap (λ i. record { way = way.Up; id = i }) (same_key_true id other e)
key-parts way.Up id way.Down other e = absurd cc
key-parts way.Down id way.Up other e = absurd cc
key-parts way.Down id way.Down other e =
    ap (λ i. record { way = way.Down; id = i }) (same_key_true id other e)

-- keys that are compared as the same are equal
pub same_key-true : (a b : Key) → same_key a b ≡ true → a ≡ b
same_key-true a b e = key-parts a.way a.id b.way b.id e

-- what was put is found
found-rest : {A : Type 0} (key : SessionKey) (x : A) (rest : List (Entry A))
    → found key (entry key (Some x) ++ rest) ≡ Some x
unfolding found entry
found-rest key x rest = rw (same_key_refl key)

found-put-first : {A : Type 0} (key : SessionKey) (x : A) (y : Entry A) (rest put : List (Entry A))
    (b : Bool) → at_end.same_key key y.key ≡ b → found key put ≡ Some x
    → found key (cond b (entry key (Some x) ++ rest) (y ∷ put)) ≡ Some x
unfolding found
found-put-first key x y rest put true e k = found-rest key x rest
found-put-first key x y rest put false e k = rw e k

-- by the key by which a value was put, that value is found
pub found-put_same : {A : Type 0} (key : SessionKey) (x : A) (xs : List (Entry A))
    → found key (put_in key (Some x) xs) ≡ Some x
unfolding put_in
found-put_same key x [] = found_own key (Some x)
found-put_same key x (y ∷ xs) =
    found-put-first key x y (without key xs) (put_in key (Some x) xs) (at_end.same_key key y.key)
    refl (found-put_same key x xs)

-- another key has what it had
without-first : {A : Type 0} (id key : SessionKey) (y : Entry A) (rest xs : List (Entry A))
    (b : Bool) → at_end.same_key id key ≡ false → at_end.same_key key y.key ≡ b
    → found id rest ≡ found id xs → found id (cond b rest (y ∷ rest)) ≡ found id (y ∷ xs)
unfolding found
without-first id key y rest xs true e f k =
    let apart : at_end.same_key id y.key ≡ false =
    subst (λ i. at_end.same_key id i ≡ false) (same_key_true key y.key f) e in rw apart k
without-first id key y rest xs false e f k =
    ap (λ o. cond (at_end.same_key id y.key) (Some y.it) o) k

without-other : {A : Type 0} (id key : SessionKey) (xs : List (Entry A))
    → at_end.same_key id key ≡ false → found id (without key xs) ≡ found id xs
unfolding without
without-other id key [] e = refl
without-other id key (y ∷ xs) e =
    without-first id key y (without key xs) xs (at_end.same_key key y.key) e refl
    (without-other id key xs e)

entry-rest : {A : Type 0} (id key : SessionKey) (x : A) (rest : List (Entry A))
    → at_end.same_key id key ≡ false → found id (entry key (Some x) ++ rest) ≡ found id rest
unfolding found entry
entry-rest id key x rest e = rw e

other-first : {A : Type 0} (id key : SessionKey) (x : A) (y : Entry A) (put xs : List (Entry A))
    (b : Bool) → at_end.same_key id key ≡ false → at_end.same_key key y.key ≡ b
    → found id put ≡ found id xs
    → found id (cond b (entry key (Some x) ++ without key xs) (y ∷ put)) ≡ found id (y ∷ xs)
unfolding found
other-first id key x y put xs true e f k =
    let apart : at_end.same_key id y.key ≡ false =
    subst (λ i. at_end.same_key id i ≡ false) (same_key_true key y.key f) e in
    entry-rest id key x (without key xs) e ∙ without-other id key xs e ∙ rw apart refl
other-first id key x y put xs false e f k =
    ap (λ o. cond (at_end.same_key id y.key) (Some y.it) o) k

-- by another key, what was found before a value was put is found after it too
pub found-put_other : {A : Type 0} (id key : SessionKey) (x : A) (xs : List (Entry A))
    → at_end.same_key id key ≡ false → found id (put_in key (Some x) xs) ≡ found id xs
unfolding put_in found
found-put_other id key x [] e = found-other id key (Some x) e
found-put_other id key x (y ∷ xs) e =
    other-first id key x y (put_in key (Some x) xs) xs (at_end.same_key key y.key) e refl
    (found-put_other id key x xs e)

-- the messages of a key
messages-push : (key : Key) (marks : List Mark) (mark : Mark)
    → messages key (marks ++ mark ∷ []) ≡ messages key marks ++ message_piece key mark
unfolding messages
messages-push key marks mark = flat_map-append (message_piece key) marks (mark ∷ [])
    ∙ ap (λ ms. messages key marks ++ ms) (append-nil (message_piece key mark))

-- one more frame that is a message of the key adds that message to the key's messages
pub messages-mine : (key : Key) (marks : List Mark) (m : Msg)
    → messages key (marks ++ MessageOf key m ∷ []) ≡ messages key marks ++ m ∷ []
messages-mine key marks m = messages-push key marks (MessageOf key m)
    ∙ ap (λ b. messages key marks ++ piece b m) (same_key-refl key)

-- one more frame that is a message of another key adds nothing to the key's messages
pub messages-theirs : (key other : Key) (marks : List Mark) (m : Msg) → same_key key other ≡ false
    → messages key (marks ++ MessageOf other m ∷ []) ≡ messages key marks
messages-theirs key other marks m e = messages-push key marks (MessageOf other m)
    ∙ ap (λ b. messages key marks ++ piece b m) e ∙ append-nil (messages key marks)

-- one more frame that carries a whole packet adds nothing to a key's messages
pub messages-whole : (key : Key) (marks : List Mark) (place : ℕ) (frame : FrameData)
    → messages key (marks ++ WholeFrame place frame ∷ []) ≡ messages key marks
messages-whole key marks place frame = messages-push key marks (WholeFrame place frame)
    ∙ append-nil (messages key marks)

among-piece : (key : Key) (m : Msg) (b : Bool) → same_key key key ≡ b → (rest : List Msg)
    → Among m (piece b m ++ rest)
among-piece key m true e rest = inl refl
among-piece key m false e rest = let same = same_key-refl key in absurd cc

-- a message of the key that is among the frames is among the key's messages
pub among-messages : (key : Key) (marks : List Mark) (m : Msg) → Among (MessageOf key m) marks
    → Among m (messages key marks)
unfolding messages
among-messages key [] m there = absurd there
among-messages key (mark ∷ marks) m (inl e) =
    subst (λ mark. Among m (message_piece key mark ++ messages key marks)) e
    (among-piece key m (same_key key key) refl (messages key marks))
among-messages key (mark ∷ marks) m (inr there) =
    among-after m (message_piece key mark) (messages key marks) (among-messages key marks m there)

-- the log entries of a key
of_key-append : {A : Type 0} (key : Key) (xs ys : List (Keyed A))
    → of_key key (xs ++ ys) ≡ of_key key xs ++ of_key key ys
unfolding of_key
of_key-append key xs ys = flat_map-append (λ x. piece (same_key key x.key) x.it) xs ys

keyed-of : {A : Type 0} (key other : Key) (b : Bool) → same_key key other ≡ b → (ys : List A)
    → of_key key (keyed other ys) ≡ cond b ys []
unfolding of_key
keyed-of key other true e [] = refl
keyed-of key other false e [] = refl
keyed-of key other true e (y ∷ ys) = ap (λ b. piece b y ++ of_key key (keyed other ys)) e
    ∙ ap (λ ys. y ∷ ys) (keyed-of key other true e ys)
keyed-of key other false e (y ∷ ys) = ap (λ b. piece b y ++ of_key key (keyed other ys)) e
    ∙ keyed-of key other false e ys

-- what a log gains for the key comes behind what it had of the key
pub of_key-mine : {A : Type 0} (key : Key) (xs : List (Keyed A)) (ys : List A)
    → of_key key (xs ++ keyed key ys) ≡ of_key key xs ++ ys
of_key-mine key xs ys = of_key-append key xs (keyed key ys)
    ∙ ap (λ zs. of_key key xs ++ zs) (keyed-of key key true (same_key-refl key) ys)

-- what a log gains for another key changes nothing of what it had of the key
pub of_key-theirs : {A : Type 0} (key other : Key) (xs : List (Keyed A)) (ys : List A)
    → same_key key other ≡ false → of_key key (xs ++ keyed other ys) ≡ of_key key xs
of_key-theirs key other xs ys e = of_key-append key xs (keyed other ys)
    ∙ ap (λ zs. of_key key xs ++ zs) (keyed-of key other false e ys) ∙ append-nil (of_key key xs)

-- the sessions of a key
begins-push : (key : Key) (xs : List Began) (b : Began)
    → begins_of key (xs ++ b ∷ []) ≡ begins_of key xs ++ piece (same_key key b.key) b.it
unfolding begins_of
begins-push key xs b = flat_map-append (λ b. piece (same_key key b.key) b.it) xs (b ∷ [])
    ∙ ap (λ ys. begins_of key xs ++ ys) (append-nil (piece (same_key key b.key) b.it))

-- a session that begins by the key comes behind those of the key
pub begins-mine : (key : Key) (xs : List Began) (b : Began) → b.key ≡ key
    → begins_of key (xs ++ b ∷ []) ≡ begins_of key xs ++ b.it ∷ []
begins-mine key xs b e = begins-push key xs b
    ∙ ap (λ k. begins_of key xs ++ piece (same_key key k) b.it) e
    ∙ ap (λ same. begins_of key xs ++ piece same b.it) (same_key-refl key)

-- a session that begins by another key changes nothing of those of the key
pub begins-theirs : (key : Key) (xs : List Began) (b : Began) → same_key key b.key ≡ false
    → begins_of key (xs ++ b ∷ []) ≡ begins_of key xs
begins-theirs key xs b e = begins-push key xs b ∙ ap (λ same. begins_of key xs ++ piece same b.it) e
    ∙ append-nil (begins_of key xs)

-- what holds of all values holds of those of a key
all-piece : {A : Type 0} (P : A → Type 0) (b : Bool) (x : A) → P x → AllByRecursion P (piece b x)
all-piece P true x p = (p, tt)
all-piece P false x p = tt

-- what holds of all entries of a log, whatever their key, holds of those of one key
pub all-of_key : {A : Type 0} (P : A → Type 0) (key : Key) (xs : List (Keyed A))
    → AllByRecursion (λ x. P x.it) xs → AllByRecursion P (of_key key xs)
unfolding of_key
all-of_key P key [] all = tt
all-of_key P key (x ∷ xs) all =
    all-append P (piece (same_key key x.key) x.it) (of_key key xs)
    (all-piece P (same_key key x.key) x.it all.0) (all-of_key P key xs all.1)

-- what holds of all sessions that began holds of those of one key
pub all-begins : (P : Begun → Type 0) (key : Key) (xs : List Began)
    → AllByRecursion (λ x. P x.it) xs → AllByRecursion P (begins_of key xs)
unfolding begins_of
all-begins P key [] all = tt
all-begins P key (x ∷ xs) all =
    all-append P (piece (same_key key x.key) x.it) (begins_of key xs)
    (all-piece P (same_key key x.key) x.it all.0) (all-begins P key xs all.1)

-- what a receiver keeps
pub held-hold_same : (key : Key) (new : Held) (labels : Labels)
    → held_by key (record labels { held = hold key new labels.held }) ≡ new
unfolding held_by hold
held-hold_same key new labels = way-same key.way key.id
  where
    way-same : (w : Direction) (id : SessionKey)
        → unwrap_or
        (found id
        (at_direction
        (put_direction labels.held w (put_in id (Some new) (at_direction labels.held w))) w))
        nothing_held ≡ new
    way-same way.Up id = ap (λ o. unwrap_or o nothing_held) (found-put_same id new labels.held.up)
    way-same way.Down id =
        ap (λ o. unwrap_or o nothing_held) (found-put_same id new labels.held.down)

hold-other : (w v : Direction) (id other : SessionKey) (new : Held) (labels : Labels)
    → same_key (record { way = w; id = id }) (record { way = v; id = other }) ≡ false →
    held_by (record { way = w; id = id })
    (record labels { held = hold (record { way = v; id = other }) new labels.held }) ≡ held_by
    (record { way = w; id = id }) labels
unfolding held_by hold same_key
hold-other way.Up way.Up id other new labels e =
    ap (λ o. unwrap_or o nothing_held) (found-put_other id other new labels.held.up e)
hold-other way.Up way.Down id other new labels e = refl
hold-other way.Down way.Up id other new labels e = refl
hold-other way.Down way.Down id other new labels e =
    ap (λ o. unwrap_or o nothing_held) (found-put_other id other new labels.held.down e)

-- the receiver of a key keeps what it kept where that of another key keeps something new
pub held-hold_other : (key other : Key) (new : Held) (labels : Labels) → same_key key other ≡ false
    → held_by key (record labels { held = hold other new labels.held }) ≡ held_by key labels
held-hold_other key other new labels e = hold-other key.way other.way key.id other.id new labels e
