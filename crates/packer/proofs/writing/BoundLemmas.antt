-- An SCHC packet has at most 12 bits more than the packet for each option of 255 bytes or more, and
-- the RuleID.
use Rattle.std.specs.Prelude.{ℕ, ◌≡◌, ◌+◌, ◌-◌, ◌*◌, ◌/◌, ◌<◌, ◌≤◌, Bool, true, false, List, []}
use Rattle.std.specs.Prelude.{◌∷◌, ◌++◌, length, drop, map, filter, sum_by, Contains}
use Rattle.std.specs.List.{AllByRecursion, flat_map, list_all}
use Rattle.std.proofs.Common.{arith, ap, refl, sym, ◌∙◌, subst, inl, inr}
use Rattle.std.proofs.lemmas.Bool.{cases_Bool, cases_lt, le-ltb, lt-ltb, and_parts, true≢false}
use Rattle.std.proofs.lemmas.List.{length-append, length-drop}
use Rattle.std.proofs.lemmas.List.Concat.{length-flat_map}
use Rattle.std.proofs.lemmas.List.Elements.{Contains-append_left, Contains-append_right}
use Rattle.std.proofs.lemmas.List.Elements.{Contains-append_cases}
use Rattle.std.proofs.lemmas.List.Sums.{sum_by-append}
use Rattle.schc_bits.specs.Bits.{number_bits, octets}
use Rattle.schc_bits.proofs.NumberBits.{length-number_bits}
use Rattle.schc_bits.proofs.Octets.{length-octets}
use Rattle.schc_ids.specs.declared.ends.Direction.{Direction}
use Rattle.schc_ids.specs.declared.ends.Direction.TheVariants.{Up, Down}
use Rattle.schc_ids.specs.declared.ends.Iids.{Iids}
use Rattle.schc_ids.specs.declared.names.FieldName.{FieldName}
use Rattle.schc_ids.specs.declared.names.FieldName.TheVariants.{CoapToken, CoapOption}
use Rattle.schc_ids.specs.declared.names.Stack.{Stack}
use Rattle.schc_ids.specs.declared.names.Stack.TheVariants as stack
use Rattle.schc_ids.specs.Ends.{covers}
use Rattle.rule_model.specs.declared.value.Computed.{Computed}
use Rattle.rule_model.specs.declared.value.FieldValue.{FieldValue}
use Rattle.rule_model.specs.Data.{EntryData, RuleData}
use Rattle.rule_model.specs.Cover.{covered, field_of, stack_of}
use Rattle.rule_model.specs.Findings.{repeats, IsAdmitted}
use Rattle.rule_model.specs.Matches.{Matches}
use Rattle.rule_model.specs.Residue.{same_field, value_of, entry_residue, residue_of, IsSized}
use Rattle.rule_model.proofs.EntryRowsLemmas.{AreApart, AreApart-from_IsAdmitted, other-field}
use Rattle.rule_model.proofs.SizedLemmas.{Contains-first, Contains-rest, same_field-itself}
use Rattle.decompress.proofs.LawLemmas.{unfilter, passes-at, value_of-own}
use Rattle.ip_udp_fields.specs.Layout.{IsWithoutCoap, header_size, fields_in_packet_order, bits_of}
use Rattle.ip_udp_fields.specs.Fields.{at_name, field_in, fields_in, FieldsOf}
use Rattle.ip_udp_fields.proofs.PlaceLemmas.{fields_in_packet_order-within}
use Rattle.ip_udp_fields.proofs.RefusalLemmas.{header_size-is_packet}
use Rattle.ip_udp_fields.proofs.SplitLemmas.{field_bits, lengths, without-coap}
use Rattle.coap_fields.specs.Message.{OptionData, Message, next_place, extension, option_spelled}
use Rattle.coap_fields.specs.Message.{options_spelled, payload_spelled, header_spelled, spelled}
use Rattle.coap_fields.specs.Fields.{option_field, option_fields, token_fields, header_fields}
use Rattle.coap_fields.specs.Fields.{fields_of_message}
use Rattle.packer.specs.Packets.{IsCoapPacket, PacketOf, computed_over}
use Rattle.packer.proofs.CoverLemmas.{Contains-parts}
use Rattle.packer.proofs.HeaderFieldsLemmas.{is_below_coap, names-below}
use Rattle.packer.proofs.HeadersLemmas.{from-within}
use Rattle.packer.proofs.PacketFieldsLemmas.{PacketOf-fields}
use Rattle.packer.proofs.rebuilt.PutPacketLemmas.{stack-cases}
use Rattle.packer.proofs.writing.RoomLemmas.{slack, slack-small, slack-middle, slack-large, room}
use Rattle.packer.proofs.writing.RoomLemmas.{entry-bound}
use Rattle.packer.proofs.writing.SizedFieldsLemmas.{sized-packet}

abbrev pub cost : FieldValue → ℕ
cost f = room f.at.name f.value

sum_cons : {X : Type 0} (f : X → ℕ) (x : X) (xs : List X) → sum_by f (x ∷ xs) ≡ f x + sum_by f xs
sum_cons f x xs = omega (arith, sum_by-append f (x ∷ []) xs)

-- a member of a list, and what stands around it
record Split {X : Type 0} (xs : List X) (x : X) : Type 0 where
  front : List X
  back : List X
  is : xs ≡ front ++ x ∷ back

split_at : {X : Type 0} (xs : List X) (x : X) → Contains xs x → Split xs x
split_at [] x h = absurd (omega (arith, h.1))
split_at (y ∷ xs) x h =
    elim (Contains-parts y xs x h) [
      | inl e ↦ record { front = []; back = xs; is = ap (λ z. z ∷ xs) e }
      | inr rest ↦
          let s = split_at xs x rest in
          record { front = y ∷ s.front; back = s.back; is = ap (λ zs. y ∷ zs) s.is }
    ]

around : {X : Type 0} (front back : List X) (x y : X) → Contains (front ++ x ∷ back) y → (x ≡ y → ⊥)
    → Contains (front ++ back) y
around front back x y h other =
    elim (Contains-append_cases front (x ∷ back) y h) [
      | inl l ↦ Contains-append_left front back y l
      | inr r ↦
          elim (Contains-parts x back y r) [
            | inl e ↦ absurd (other e)
            | inr rest ↦ Contains-append_right front back y rest
          ]
    ]

-- the field of an entry, with room for what is sent of it
record HasRoom (fields : List FieldValue) (size : EntryData → ℕ) (e : EntryData) : Type 0 where
  f : FieldValue
  among : Contains fields f
  at : field_of e ≡ f.at
  room : size e ≤ cost f

one_more : (fields front back : List FieldValue) (f : FieldValue) (e : EntryData)
    (used : List EntryData) (size : EntryData → ℕ) → fields ≡ front ++ f ∷ back → size e ≤ cost f
    → sum_by size used ≤ sum_by cost (front ++ back) → sum_by size (e ∷ used) ≤ sum_by cost fields
one_more fields front back f e used size is room rest =
    omega (
      arith,
      sum_cons size e used,
      room,
      rest,
      sum_by-append cost front back,
      ap (sum_by cost)
          is,
      sum_by-append cost front (f ∷ back),
      sum_cons cost f back,
    )

-- what is sent of all entries has room in the fields
sum_into : (direction : Direction) (entries : List EntryData) (fields : List FieldValue)
    (size : EntryData → ℕ) → AreApart entries
    → ((e : EntryData) → Contains (filter (λ e. covers e.direction direction) entries) e
    → HasRoom fields size e)
    → sum_by size (filter (λ e. covers e.direction direction) entries) ≤ sum_by cost fields
sum_into direction [] fields size apart each = omega arith
sum_into direction (e ∷ entries) fields size apart each =
    elim (cases_Bool (covers e.direction direction)) [
      | inr n ↦ rw n
          (sum_into direction entries fields size apart.1 (λ d among. each d (rw n among)))
      | inl t ↦
          let used : List EntryData = filter (λ e. covers e.direction direction) entries in
          let own : HasRoom fields size e = each e (rw t (Contains-first e used)) in
          let s = split_at fields own.f own.among in
          let rest : sum_by size used ≤ sum_by cost (s.front ++ s.back) =
          sum_into direction entries (s.front ++ s.back) size apart.1
          (λ d among.
          let its : HasRoom fields size d = each d (rw t (Contains-rest e used d among)) in
          let is = unfilter (λ e. covers e.direction direction) entries d among in
          let other : same_field (field_of d) (field_of e) ≡ false =
          other-field d e direction (apart.0 d is.0) is.1 t in
          record {
            f = its.f;
            among = around s.front s.back own.f its.f
                (subst (λ (xs : List FieldValue). Contains xs its.f) s.is its.among)
                (λ same.
                let one : field_of d ≡ field_of e = its.at
                ∙ ap (λ (g : FieldValue). g.at) (sym same) ∙ sym own.at in
                true≢false
                (sym (subst (λ at. same_field (field_of d) at ≡ true) one
                (same_field-itself (field_of d))) ∙ other));
            at = its.at;
            room = its.room;
          })
          in
          rw t (one_more fields s.front s.back own.f e used size s.is own.room rest)
    ]

-- what is sent of a packet's fields
residue_room : (rule : RuleData) (iids : Iids) (direction : Direction) (fields : List FieldValue)
    (computed : Computed) → IsAdmitted rule → IsSized rule direction fields
    → Matches rule iids direction fields computed
    → length (residue_of rule direction fields) ≤ sum_by cost fields
residue_room rule iids direction fields computed admitted sized m =
    let size : EntryData → ℕ = λ e. length (entry_residue e (value_of fields (field_of e))) in
    omega (
      arith,
      length-flat_map (λ e. entry_residue e (value_of fields (field_of e)))
          (covered rule direction),
      sum_into direction rule.entries fields size (AreApart-from_IsAdmitted rule admitted)
          (λ e among.
          let f = m.same_set.each_entry e among in
          let own : value_of fields (field_of e) ≡ f.0.value = ap (value_of fields) f.2
          ∙ value_of-own fields f.0 sized.each_once f.1 in
          let passes = passes-at rule direction admitted e among in
          let bound : length (entry_residue e f.0.value) ≤ room e.name f.0.value =
          entry-bound (stack_of rule) e f.0.value passes.kind passes.pair passes.count
          passes.lengths (m.agrees f.0 e f.1 among f.2).operator_holds
          in
          record {
            f = f.0;
            among = f.1;
            at = f.2;
            room =
                subst (λ (v : List Bool). length (entry_residue e v) ≤ cost f.0) (sym own)
                (subst (λ at. length (entry_residue e f.0.value) ≤ room at.name f.0.value) f.2
                bound);
          }),
    )

-- the fields of headers that stand at fixed places
abbrev with_bits : (FieldName → List Bool) → FieldName → FieldValue
with_bits values name = record { at = at_name name; value = values name }

below_room : (name : FieldName) (value : List Bool) → is_below_coap name ≡ true
    → room name value ≡ length value
below_room (CoapOption number) value h = absurd (cc)
below_room _ value h = refl

sum_widths : (values : FieldName → List Bool) (names : List FieldName)
    → AllByRecursion (λ n. length (values n) ≡ bits_of n) names
    → list_all is_below_coap names ≡ true
    → sum_by cost (map (with_bits values) names) ≡ sum_by bits_of names
sum_widths values [] wide h = refl
sum_widths values (name ∷ names) wide h =
    let parts = and_parts (is_below_coap name) (list_all is_below_coap names) h in
    omega (
      arith,
      below_room name (values name) parts.0,
      wide.0,
      sum_widths values names wide.1
          parts.1,
      sum_cons cost (with_bits values name) (map (with_bits values) names),
      sum_cons
          bits_of name names,
    )

header_bits : (of : Stack) (direction : Direction) → IsWithoutCoap of
    → sum_by bits_of (fields_in_packet_order of direction) ≡ 8 * header_size of
header_bits stack.Ip Up h = refl
header_bits stack.Ip Down h = refl
header_bits stack.IpUdp Up h = refl
header_bits stack.IpUdp Down h = refl
header_bits stack.IpUdpCoap direction h = absurd h

header_room : (of : Stack) (direction : Direction) (packet : List ℕ) (fields : List FieldValue)
    (from : ℕ) → IsWithoutCoap of → FieldsOf of direction packet fields from
    → sum_by cost fields ≡ 8 * header_size of
unfolding fields_in
header_room of direction packet fields from h p =
    ap (sum_by cost) p.its_fields
    ∙ sum_widths (field_bits direction packet) (fields_in_packet_order of direction)
    (lengths of direction packet (fields_in_packet_order of direction)
    (header_size-is_packet of packet p.is_packet)
    (fields_in_packet_order-within of direction h)) (names-below of direction h)
    ∙ header_bits of direction h

-- an option, and how many of its bits are beyond those that it has in the packet
record IsBounded (size bytes : ℕ) : Type 0 where
  long : ℕ
  bound : size ≤ 8 * bytes + 12 * long
  few : 257 * long ≤ bytes

one_byte : (number : ℕ) → 13 ≤ number → 1 ≤ length (extension number)
one_byte number h =
    elim (cases_lt number 269) [
      | inl l ↦ rw (le-ltb number 13 h, lt-ltb number 269 l) (omega arith)
      | inr l ↦ rw (le-ltb number 13 h, le-ltb number 269 l) (omega arith)
    ]

two_bytes : (number : ℕ) → 269 ≤ number → length (extension number) ≡ 2
two_bytes number h = rw (le-ltb number 13 (omega (arith, h)), le-ltb number 269 h) refl

option_length : (before : ℕ) (o : OptionData)
    → 1 + (length (extension (length o.value)) + length o.value) ≤ length (option_spelled before o)
option_length before o =
    omega (
      arith,
      length-append (extension (o.number - before))
          (extension (length o.value) ++ o.value),
      length-append (extension (length o.value)) o.value,
    )

value_room : (size bits : ℕ) → bits ≡ 8 * size → slack (bits / 8) + bits ≡ slack size + 8 * size
value_room size bits e = let n : bits / 8 ≡ size = omega (arith, e) in rw n (omega (arith, e))

option_bounded : (before : ℕ) (o : OptionData)
    → IsBounded (slack (length (octets o.value) / 8) + length (octets o.value))
    (length (option_spelled before o))
option_bounded before o =
    let n : ℕ = length o.value in
    let cost_is = value_room n (length (octets o.value)) (length-octets o.value) in
    let least = option_length before o in
    elim (cases_lt n 15) [
      | inl l ↦
          record {
            long = 0;
            bound = omega (arith, cost_is, least, slack-small n l);
            few =
                omega arith;
          }
      | inr l ↦
          let more : 1 ≤ length (extension n) = one_byte n (omega (arith, l)) in
          elim (cases_lt n 255) [
            | inl m ↦
                record {
                  long = 0;
                  bound =
                      omega (arith, cost_is, least, more, slack-middle n l m);
                  few = omega arith;
                }
            | inr m ↦
                elim (cases_lt n 269) [
                  | inl k ↦
                      record {
                        long = 1;
                        bound =
                            omega (arith, cost_is, least, more, slack-large n m);
                        few =
                            omega (arith, least, more, m);
                      }
                  | inr k ↦
                      record {
                        long = 1;
                        bound =
                            omega (arith, cost_is, least, two_bytes n k, slack-large n m);
                        few =
                            omega (arith, least, k);
                      }
                ]
          ]
    ]

both_bounded : (size more bytes rest : ℕ) → IsBounded size bytes → IsBounded more rest
    → IsBounded (size + more) (bytes + rest)
both_bounded size more bytes rest a b =
    record {
      long = a.long + b.long;
      bound = omega (arith, a.bound, b.bound);
      few =
          omega (arith, a.few, b.few);
    }

options_bounded : (before place : ℕ) (options : List OptionData)
    → IsBounded (sum_by cost (option_fields before place options))
    (length (options_spelled before options))
unfolding option_fields options_spelled
options_bounded before place [] = record { long = 0; bound = omega arith; few = omega arith }
options_bounded before place (o ∷ options) =
    let rest : ℕ = next_place before place o.number in
    let own : FieldValue = option_field o.number rest o.value in
    subst (λ size. IsBounded size
    (length (option_spelled before o ++ options_spelled o.number options)))
    (sym (sum_cons cost own (option_fields o.number rest options)))
    (subst (IsBounded (cost own + sum_by cost (option_fields o.number rest options)))
    (sym (length-append (option_spelled before o) (options_spelled o.number options)))
    (both_bounded (slack (length (octets o.value) / 8) + length (octets o.value))
    (sum_by cost (option_fields o.number rest options)) (length (option_spelled before o))
    (length (options_spelled o.number options)) (option_bounded before o)
    (options_bounded o.number rest options)))

token_room : (token : List ℕ) → sum_by cost (token_fields token) ≡ 8 * length token
token_room [] = refl
token_room (byte ∷ token) = omega (arith, length-octets (byte ∷ token))

header_room_coap : (kind tkl code id : ℕ) → sum_by cost (header_fields kind tkl code id) ≡ 32
header_room_coap kind tkl code id =
    omega (
      arith,
      length-number_bits 2 1,
      length-number_bits 2 kind,
      length-number_bits 4 tkl,
      length-number_bits 8 code,
      length-number_bits 16 id,
    )

payload_length : (payload : List ℕ) → length payload ≤ length (payload_spelled payload)
payload_length [] = omega arith
payload_length (byte ∷ bytes) = omega arith

-- the fields of a message
message_bounded : (m : Message)
    → IsBounded (sum_by cost (fields_of_message m) + 8 * length m.payload) (length (spelled m))
unfolding fields_of_message spelled
message_bounded m =
    let o = options_bounded 0 0 m.options in
    let heads : List FieldValue = header_fields m.kind (length m.token) m.code m.id in
    let rest : List FieldValue = token_fields m.token ++ option_fields 0 0 m.options in
    let behind : List ℕ = options_spelled 0 m.options ++ payload_spelled m.payload in
    let sums : sum_by cost
    (heads ++ rest) ≡ 32 + (8 * length m.token + sum_by cost (option_fields 0 0 m.options)) =
    omega (
      arith,
      sum_by-append cost heads rest,
      header_room_coap m.kind (length m.token) m.code
          m.id,
      sum_by-append cost (token_fields m.token) (option_fields 0 0 m.options),
      token_room
          m.token,
    )
    in
    let bytes : length
    (header_spelled m ++ (m.token ++ behind)) ≡ 4 + (length
    m.token + (length (options_spelled 0 m.options) + length (payload_spelled m.payload))) =
    omega (
      arith,
      length-append (header_spelled m) (m.token ++ behind),
      length-append m.token
          behind,
      length-append (options_spelled 0 m.options) (payload_spelled m.payload),
    )
    in
    record {
      long = o.long;
      bound = omega (arith, o.bound, sums, bytes, payload_length m.payload);
      few = omega (arith, o.few, bytes);
    }

-- the residue and the payload
pub record IsShort (packet : List ℕ) (bits : ℕ) : Type 0 where
  pub long : ℕ
  pub bound : bits ≤ 8 * length packet + 12 * long
  pub few : 257 * long ≤ length packet

plain_short : (of : Stack) (direction : Direction) (packet : List ℕ) (fields : List FieldValue)
    (from size : ℕ) → IsWithoutCoap of → FieldsOf of direction packet fields from
    → size ≤ sum_by cost fields → IsShort packet (size + 8 * length (drop from packet))
plain_short of direction packet fields from size h p s =
    record {
      long = 0;
      bound = omega (
        arith,
        s,
        header_room of direction packet fields from h p,
        length-drop from packet,
        p.its_payload,
        header_size-is_packet of packet p.is_packet,
      );
      few = omega arith;
    }

coap_short : (direction : Direction) (packet : List ℕ) (fields : List FieldValue) (from size : ℕ)
    → IsCoapPacket direction packet fields from → size ≤ sum_by cost fields
    → IsShort packet (size + 8 * length (drop from packet))
coap_short direction packet fields from size p s =
    let m : Message = p.its_message.message in
    let own = message_bounded m in
    let spelling : length (drop 48 packet) ≡ length (spelled m) =
    ap (λ (b : List ℕ). length b) p.its_message.its_spelling in
    let heads : sum_by cost (fields_in stack.IpUdp direction packet) ≡ 8 * 48 =
    header_room stack.IpUdp direction packet (fields_in stack.IpUdp direction packet) 48 tt
    (record { is_packet = p.is_udp; its_fields = refl; its_payload = refl })
    in
    let sums : sum_by cost fields ≡ sum_by cost (fields_in stack.IpUdp direction packet) + sum_by
    cost (fields_of_message m) =
    ap (sum_by cost)
    (p.its_fields
    ∙ ap (λ (fs : List FieldValue). fields_in stack.IpUdp direction packet ++ fs)
    p.its_message.its_fields)
    ∙ sum_by-append cost (fields_in stack.IpUdp direction packet) (fields_of_message m)
    in
    record {
      long = own.long;
      bound = omega (
        arith,
        s,
        sums,
        heads,
        own.bound,
        spelling,
        length-drop 48 packet,
        length-drop from
            packet,
        p.its_payload,
        p.its_message.its_payload,
        p.is_udp.header,
      );
      few = omega (arith, own.few, spelling, length-drop 48 packet);
    }

-- what is sent of a packet that an admitted rule matches
pub residue-short : (rule : RuleData) (iids : Iids) (direction : Direction) (packet : List ℕ)
    (fields : List FieldValue) (from : ℕ) (computed : Computed) → IsAdmitted rule
    → PacketOf (stack_of rule) direction packet fields from
    → Matches rule iids direction fields computed
    → IsShort packet (length (residue_of rule direction fields) + 8 * length (drop from packet))
residue-short rule iids direction packet fields from computed admitted p m =
    let room : length (residue_of rule direction fields) ≤ sum_by cost fields =
    residue_room rule iids direction fields computed admitted
    (sized-packet rule iids direction (stack_of rule) packet fields from computed admitted p m)
    m
    in
    elim (stack-cases (stack_of rule)) [
      | inl without ↦
          plain_short (stack_of rule) direction packet fields from
          (length (residue_of rule direction fields)) without
          (PacketOf-fields (stack_of rule) direction packet fields from without p) room
      | inr s ↦ coap_short direction packet fields from (length (residue_of rule direction fields))
          (subst (λ (of : Stack). PacketOf of direction packet fields from) s p) room
    ]
