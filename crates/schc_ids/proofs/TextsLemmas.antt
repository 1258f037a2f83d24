-- The text of a field's name is that name's, and a name that was found has that text.
use Rattle.std.specs.Prelude.{ℕ, ◌≡◌, ◌==◌, Bool, true, false, if◌then◌else◌, List, [], ◌∷◌, Option}
use Rattle.std.specs.Prelude.{Some, None, find}
use Rattle.std.specs.Option.{option_map_or}
use Rattle.std.specs.Str.{bytes_eq}
use Rattle.std.proofs.lemmas.Slice.Eq.{bytes_eq-Decides}
use Rattle.std.proofs.Common.{refl, subst, ap}
use Rattle.std.proofs.lemmas.Bool.{false≢true, eqb-true}
use Rattle.std.proofs.lemmas.Option.{none-some, same_Some}
use Rattle.schc_ids.specs.declared.names.FieldName.{FieldName}
use Rattle.schc_ids.specs.declared.names.FieldName.TheVariants as field
use Rattle.schc_ids.specs.Texts.{option_text, text_of, has_text, name_of_text, named_fields}

-- ---- a name that was found has a text

passes-if : {A : Type 0} (p : A → Bool) (y : A) (rest : Option A) (x : A) (b : Bool) → p y ≡ b
    → (rest ≡ Some x → p x ≡ true)
    → (if b then Some y else rest) ≡ Some x → p x ≡ true
passes-if p y rest x true e later h = subst (λ z. p z ≡ true) (same_Some y x h) e
passes-if p y rest x false e later h = later h

passes : {A : Type 0} (p : A → Bool) (xs : List A) (x : A) → find p xs ≡ Some x → p x ≡ true
passes p [] x h = absurd (none-some x h)
passes p (y ∷ ys) x h = passes-if p y (find p ys) x (p y) refl (passes p ys x) h

mapped : (text : List ℕ) (o : Option (List ℕ))
    → option_map_or (λ its. bytes_eq its text) o false ≡ true → o ≡ Some text
mapped text None h = absurd (false≢true h)
mapped text (Some its) h = ap Some ((bytes_eq-Decides its text).0 h)

-- the field name that is found for a text has that text
pub text_of-name_of_text : (text : List ℕ) (name : FieldName) → name_of_text text ≡ Some name
    → text_of name ≡ Some text
unfolding name_of_text
text_of-name_of_text text name h =
    mapped text (text_of name) (passes (λ other. has_text other text) named_fields name h)

-- ---- the text of a name is that name's

-- a text that is known to be a name's
own : (name : FieldName) (its text : List ℕ) → name_of_text its ≡ Some name → Some its ≡ Some text
    → name_of_text text ≡ Some name
own name its text back h = subst (λ t. name_of_text t ≡ Some name) (same_Some its text h) back

-- one option of the list, and those after it
next-if : (n k : ℕ) (its : List ℕ) (rest : Option (List ℕ)) (text : List ℕ) (b : Bool)
    → (n == k) ≡ b → name_of_text its ≡ Some (field.CoapOption k)
    → (rest ≡ Some text → name_of_text text ≡ Some (field.CoapOption n))
    → (if b then Some its else rest) ≡ Some text → name_of_text text ≡ Some (field.CoapOption n)
next-if n k its rest text true e back later h =
    rw (eqb-true n k e) (own (field.CoapOption k) its text back h)
next-if n k its rest text false e back later h = later h

next : (n k : ℕ) (its : List ℕ) (rest : Option (List ℕ)) (text : List ℕ)
    → name_of_text its ≡ Some (field.CoapOption k)
    → (rest ≡ Some text → name_of_text text ≡ Some (field.CoapOption n))
    → (if n == k then Some its else rest) ≡ Some text
    → name_of_text text ≡ Some (field.CoapOption n)
next n k its rest text back later h = next-if n k its rest text (n == k) refl back later h

-- the text of an option's name is found again
pub name_of_text-option_text : (n : ℕ) (text : List ℕ) → option_text n ≡ Some text
    → name_of_text text ≡ Some (field.CoapOption n)
unfolding option_text name_of_text text_of
name_of_text-option_text n text h =
    next n 1 _ _ text refl (λ h1.
    next n 3 _ _ text refl (λ h2.
    next n 4 _ _ text refl (λ h3.
    next n 5 _ _ text refl (λ h4.
    next n 6 _ _ text refl (λ h5.
    next n 7 _ _ text refl (λ h6.
    next n 8 _ _ text refl (λ h7.
    next n 9 _ _ text refl (λ h8.
    next n 11 _ _ text refl (λ h9.
    next n 12 _ _ text refl (λ h10.
    next n 14 _ _ text refl (λ h11.
    next n 15 _ _ text refl (λ h12.
    next n 17 _ _ text refl (λ h13.
    next n 20 _ _ text refl (λ h14.
    next n 23 _ _ text refl (λ h15.
    next n 27 _ _ text refl (λ h16.
    next n 28 _ _ text refl (λ h17.
    next n 35 _ _ text refl (λ h18.
    next n 39 _ _ text refl (λ h19.
    next n 60 _ _ text refl (λ h20.
    next n 258 _ _ text refl (λ h21.
    absurd (none-some text h21)) h20) h19) h18) h17) h16) h15) h14) h13) h12) h11) h10) h9) h8) h7)
    h6) h5) h4) h3) h2) h1) h

-- the text of a name is found again
pub name_of_text-text_of : (name : FieldName) (text : List ℕ) → text_of name ≡ Some text
    → name_of_text text ≡ Some name
unfolding option_text name_of_text text_of
name_of_text-text_of field.IpVersion text h = own field.IpVersion _ text refl h
name_of_text-text_of field.IpTrafficClass text h = own field.IpTrafficClass _ text refl h
name_of_text-text_of field.IpFlowLabel text h = own field.IpFlowLabel _ text refl h
name_of_text-text_of field.IpPayloadLength text h = own field.IpPayloadLength _ text refl h
name_of_text-text_of field.IpNextHeader text h = own field.IpNextHeader _ text refl h
name_of_text-text_of field.IpHopLimit text h = own field.IpHopLimit _ text refl h
name_of_text-text_of field.IpDevPrefix text h = own field.IpDevPrefix _ text refl h
name_of_text-text_of field.IpDevIid text h = own field.IpDevIid _ text refl h
name_of_text-text_of field.IpAppPrefix text h = own field.IpAppPrefix _ text refl h
name_of_text-text_of field.IpAppIid text h = own field.IpAppIid _ text refl h
name_of_text-text_of field.UdpDevPort text h = own field.UdpDevPort _ text refl h
name_of_text-text_of field.UdpAppPort text h = own field.UdpAppPort _ text refl h
name_of_text-text_of field.UdpLength text h = own field.UdpLength _ text refl h
name_of_text-text_of field.UdpChecksum text h = own field.UdpChecksum _ text refl h
name_of_text-text_of field.CoapVersion text h = own field.CoapVersion _ text refl h
name_of_text-text_of field.CoapType text h = own field.CoapType _ text refl h
name_of_text-text_of field.CoapTkl text h = own field.CoapTkl _ text refl h
name_of_text-text_of field.CoapCode text h = own field.CoapCode _ text refl h
name_of_text-text_of field.CoapMid text h = own field.CoapMid _ text refl h
name_of_text-text_of field.CoapToken text h = own field.CoapToken _ text refl h
name_of_text-text_of (field.CoapOption n) text h = name_of_text-option_text n text h
