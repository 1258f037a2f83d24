use Rattle.std.proofs.Common.{◌≡◌, ◌≤◌, ◌^◌, List, Bool, length, arith, ap, sym, ◌∙◌, subst}
use Rattle.std.proofs.Math.Nat.{pow-le-pow_right}
use Rattle.schc_bits.proofs.NumberBits.{bits_value-below}
use Rattle.schc_ids.specs.declared.names.FieldName.{FieldName}
use Rattle.rule_model.specs.Residue.{value_of}
use Rattle.packer.proofs.choosing.key_value.Goals as goal

pub overflow_cast-result : goal.overflow_cast-result
overflow_cast-result c =
    let name : length
    (value_of c.args.fields.now.items
    (record { name = c.key_field.result; position = 1 })) ≤ 16 =
    subst (λ (n : FieldName). length
    (value_of c.args.fields.now.items (record { name = n; position = 1 })) ≤ 16)
    (sym c.key_field.ensures) c.requires
    in
    let few : length c.value_of.result ≤ 16 =
    subst (λ (v : List Bool). length v ≤ 16) (sym c.value_of.ensures) name in
    let most : 2 ^ length c.value_of.result ≤ 2 ^ 16 = pow-le-pow_right (omega arith) few in
    omega (arith, most, c.number.ensures.value, bits_value-below c.value_of.result)
