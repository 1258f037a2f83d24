use Rattle.std.proofs.Common.{◌≡◌, ◌∙◌, ◌-◌, ◌%◌, ap, length, take}
use Rattle.schc_bits.specs.Bits.{padded, bytes_of}
use Rattle.schc_bits.proofs.Octets.{bytes_of-padded-take}
use Rattle.schc_bits.proofs.part.Part.to_whole_bytes.Goals as goal

pub returns : goal.returns
returns c =
    let front : c.front.result ≡ take (length c.args.self.now - length c.args.self.now % 8)
    c.args.self.now =
    rw (c.len.ensures, c.len-2.ensures) at c.front.ensures
    in
    let same : bytes_of (padded c.front.result) ≡ bytes_of c.args.self.now =
    ap (λ bits. bytes_of (padded bits)) front ∙ bytes_of-padded-take c.args.self.now
    in
    rw same at c.to_padded_bytes.ensures
