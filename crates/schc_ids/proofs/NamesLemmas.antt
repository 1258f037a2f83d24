-- Equal names of fields.
use Rattle.std.specs.Prelude.{◌≡◌, true}
use Rattle.std.proofs.Common.{ap, refl}
use Rattle.std.proofs.lemmas.Bool.{eqb-true, eq-eqb, false≢true}
use Rattle.schc_ids.specs.declared.names.FieldName.{FieldName}
use Rattle.schc_ids.specs.declared.names.FieldName.TheVariants as field
use Rattle.schc_ids.specs.Names.{same_name}

-- names that pass the test are equal
pub same_name-true : (a b : FieldName) → same_name a b ≡ true → a ≡ b
same_name-true field.IpVersion field.IpVersion h = refl
same_name-true field.IpTrafficClass field.IpTrafficClass h = refl
same_name-true field.IpFlowLabel field.IpFlowLabel h = refl
same_name-true field.IpPayloadLength field.IpPayloadLength h = refl
same_name-true field.IpNextHeader field.IpNextHeader h = refl
same_name-true field.IpHopLimit field.IpHopLimit h = refl
same_name-true field.IpDevPrefix field.IpDevPrefix h = refl
same_name-true field.IpDevIid field.IpDevIid h = refl
same_name-true field.IpAppPrefix field.IpAppPrefix h = refl
same_name-true field.IpAppIid field.IpAppIid h = refl
same_name-true field.UdpDevPort field.UdpDevPort h = refl
same_name-true field.UdpAppPort field.UdpAppPort h = refl
same_name-true field.UdpLength field.UdpLength h = refl
same_name-true field.UdpChecksum field.UdpChecksum h = refl
same_name-true field.CoapVersion field.CoapVersion h = refl
same_name-true field.CoapType field.CoapType h = refl
same_name-true field.CoapTkl field.CoapTkl h = refl
same_name-true field.CoapCode field.CoapCode h = refl
same_name-true field.CoapMid field.CoapMid h = refl
same_name-true field.CoapToken field.CoapToken h = refl
same_name-true (field.CoapOption a) (field.CoapOption b) h = ap field.CoapOption (eqb-true a b h)
same_name-true _ _ h = absurd (false≢true h)

-- each name passes the test with itself
pub same_name-itself : (a : FieldName) → same_name a a ≡ true
same_name-itself (field.CoapOption a) = eq-eqb a a refl
same_name-itself _ = refl
