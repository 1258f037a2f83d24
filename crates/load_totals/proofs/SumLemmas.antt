-- Sums that wrap on the way, and are exact where the whole fits.
use Rattle.std.proofs.Common.{ℕ, ◌≡◌, ◌+◌, ◌*◌, ◌-◌, ◌<◌, ◌≤◌, ◌%◌, ◌^◌, Option, Some, None}
use Rattle.std.proofs.Common.{List, [], ◌∷◌, ◌++◌, length, map, refl, sym, ap, ◌∙◌, subst, arith}
use Rattle.std.specs.List.{AllZip, sum_by}
use Rattle.std.specs.Borrow.{Bor}
use Rattle.std.proofs.lemmas.List.Sums.{sum_by-cons, sum_by-append, sum_by_push, sum_by-le}
use Rattle.rayon.proofs.ListFacts.{AllZip-weaken}
use Rattle.rayon.proofs.ToStd.{slice-map, slice-length}
use Rattle.schc_ids.specs.declared.notes.ReportKind.{ReportKind}
use Rattle.schc_ids.specs.declared.notes.ReportKind.TheVariants as ended
use Rattle.schc_ids.specs.declared.notes.Report.{Report}
use Rattle.event_data.specs.Records.{HandUpData}
use Rattle.event_data.specs.declared.outcomes.Line.{Line}
use Rattle.event_data.specs.declared.outcomes.Line.TheVariants as line
use Rattle.load_totals.specs.declared.totals.Totals.{Totals}
use Rattle.load_totals.specs.Totals.{packets_in, frames_in, ups_of, ups_in}
use Rattle.load_totals.specs.Totals.{delivered_as, delivered_of, delivered_in}
use Rattle.load_totals.specs.Totals.{totals_in, totals, nothing, together}

-- ---- what wraps

abbrev packets : Totals → ℕ
packets t = t.packets

abbrev frames : Totals → ℕ
frames t = t.frames

abbrev up : Totals → ℕ
up t = t.up

abbrev delivered : Totals → ℕ
delivered t = t.delivered

abbrev octets : Totals → ℕ
octets t = t.octets

-- r has the sums over these totals, as far as its types hold them
pub record IsWrapped (xs : List Totals) (r : Totals) : Type 0 where
  pub packets_sum : r.packets ≡ sum_by packets xs % 2 ^ 64
  pub frames_sum : r.frames ≡ sum_by frames xs % 2 ^ 64
  pub up_sum : r.up ≡ sum_by up xs % 2 ^ 64
  pub delivered_sum : r.delivered ≡ sum_by delivered xs % 2 ^ 64
  pub octets_sum : r.octets ≡ sum_by octets xs % 2 ^ 128

more-64 : (f : Totals → ℕ) (xs : List Totals) (x : Totals) (a : ℕ) → a ≡ sum_by f xs % 2 ^ 64
    → (a + f x) % 2 ^ 64 ≡ sum_by f (xs ++ x ∷ []) % 2 ^ 64
more-64 f xs x a h = omega (arith, h, sum_by_push f xs x)

more-128 : (f : Totals → ℕ) (xs : List Totals) (x : Totals) (a : ℕ) → a ≡ sum_by f xs % 2 ^ 128
    → (a + f x) % 2 ^ 128 ≡ sum_by f (xs ++ x ∷ []) % 2 ^ 128
more-128 f xs x a h = omega (arith, h, sum_by_push f xs x)

join-64 : (f : Totals → ℕ) (xs ys : List Totals) (a b : ℕ) → a ≡ sum_by f xs % 2 ^ 64
    → b ≡ sum_by f ys % 2 ^ 64 → (a + b) % 2 ^ 64 ≡ sum_by f (xs ++ ys) % 2 ^ 64
join-64 f xs ys a b h k = omega (arith, h, k, sum_by-append f xs ys)

join-128 : (f : Totals → ℕ) (xs ys : List Totals) (a b : ℕ) → a ≡ sum_by f xs % 2 ^ 128
    → b ≡ sum_by f ys % 2 ^ 128 → (a + b) % 2 ^ 128 ≡ sum_by f (xs ++ ys) % 2 ^ 128
join-128 f xs ys a b h k = omega (arith, h, k, sum_by-append f xs ys)

-- nothing has the sums over no totals
pub wrapped-none : (r : Totals) → r ≡ nothing → IsWrapped [] r
unfolding nothing
wrapped-none r is = rw is (record {
  packets_sum = refl;
  frames_sum = refl;
  up_sum = refl;
  delivered_sum = refl;
  octets_sum = refl;
})

-- one more
pub wrapped-more : (xs : List Totals) (a x r : Totals) → IsWrapped xs a → r ≡ together a x
    → IsWrapped (xs ++ x ∷ []) r
unfolding together
wrapped-more xs a x r h is = rw is (record {
  packets_sum = more-64 packets xs x a.packets h.packets_sum;
  frames_sum = more-64 frames xs x a.frames h.frames_sum;
  up_sum = more-64 up xs x a.up h.up_sum;
  delivered_sum = more-64 delivered xs x a.delivered h.delivered_sum;
  octets_sum = more-128 octets xs x a.octets h.octets_sum;
})

-- two parts side by side
pub wrapped-joined : (xs ys : List Totals) (a b r : Totals) → IsWrapped xs a → IsWrapped ys b
    → r ≡ together a b → IsWrapped (xs ++ ys) r
unfolding together
wrapped-joined xs ys a b r h k is = rw is (record {
  packets_sum = join-64 packets xs ys a.packets b.packets h.packets_sum k.packets_sum;
  frames_sum = join-64 frames xs ys a.frames b.frames h.frames_sum k.frames_sum;
  up_sum = join-64 up xs ys a.up b.up h.up_sum k.up_sum;
  delivered_sum = join-64 delivered xs ys a.delivered b.delivered h.delivered_sum k.delivered_sum;
  octets_sum = join-128 octets xs ys a.octets b.octets h.octets_sum k.octets_sum;
})

-- ---- what fits

packets-few : (l : Line) → packets_in l ≤ 2
packets-few (line.Hand accepted) = omega arith
packets-few (line.HandRefused fault) = omega arith
packets-few (line.Slot emission) = omega arith
packets-few (line.Deliver taken) = omega arith
packets-few (line.Tick device gateway) = omega arith
packets-few (line.Abort report) = omega arith
packets-few (line.Published number) = omega arith
packets-few (line.Refused finding) = omega arith
packets-few (line.Offer answer) = omega arith
packets-few (line.Allow answer) = omega arith
packets-few line.NoFrame = omega arith
packets-few line.NoEdition = omega arith

frames-few : (l : Line) → frames_in l ≤ 2
frames-few (line.Hand accepted) = omega arith
frames-few (line.HandRefused fault) = omega arith
frames-few (line.Slot None) = omega arith
frames-few (line.Slot (Some emission)) = omega arith
frames-few (line.Deliver taken) = omega arith
frames-few (line.Tick device gateway) = omega arith
frames-few (line.Abort report) = omega arith
frames-few (line.Published number) = omega arith
frames-few (line.Refused finding) = omega arith
frames-few (line.Offer answer) = omega arith
frames-few (line.Allow answer) = omega arith
frames-few line.NoFrame = omega arith
frames-few line.NoEdition = omega arith

up-of-few : (up : Option HandUpData) → ups_of up ≤ 2
up-of-few None = omega arith
up-of-few (Some up) = omega arith

ups-few : (l : Line) → ups_in l ≤ 2
ups-few (line.Hand accepted) = omega arith
ups-few (line.HandRefused fault) = omega arith
ups-few (line.Slot emission) = omega arith
ups-few (line.Deliver taken) = up-of-few taken.up
ups-few (line.Tick device gateway) = omega arith
ups-few (line.Abort report) = omega arith
ups-few (line.Published number) = omega arith
ups-few (line.Refused finding) = omega arith
ups-few (line.Offer answer) = omega arith
ups-few (line.Allow answer) = omega arith
ups-few line.NoFrame = omega arith
ups-few line.NoEdition = omega arith

delivered-as-one : (kind : ReportKind) → delivered_as kind ≤ 1
delivered-as-one ended.Delivered = omega arith
delivered-as-one ended.Sent = omega arith
delivered-as-one (ended.Failed cause) = omega arith

delivered-of-one : (report : Option Report) → delivered_of report ≤ 1
delivered-of-one None = omega arith
delivered-of-one (Some report) = delivered-as-one report.kind

delivered-few : (l : Line) → delivered_in l ≤ 2
delivered-few (line.Hand accepted) = omega arith
delivered-few (line.HandRefused fault) = omega arith
delivered-few (line.Slot None) = omega arith
delivered-few (line.Slot (Some emission)) = omega (arith, delivered-of-one emission.emitted.report)
delivered-few (line.Deliver taken) = omega (arith, delivered-of-one taken.report)
delivered-few (line.Tick device gateway) = omega
    (arith, delivered-of-one device, delivered-of-one gateway)
delivered-few (line.Abort report) = omega (arith, delivered-of-one report)
delivered-few (line.Published number) = omega arith
delivered-few (line.Refused finding) = omega arith
delivered-few (line.Offer answer) = omega arith
delivered-few (line.Allow answer) = omega arith
delivered-few line.NoFrame = omega arith
delivered-few line.NoEdition = omega arith

mapped : (f : Totals → ℕ) (ls : List Line)
    → sum_by f (map totals_in ls) ≡ sum_by (λ l. f (totals_in l)) ls
mapped f [] = refl
mapped f (l ∷ ls) =
    sum_by-cons f (totals_in l) (map totals_in ls) ∙ ap (λ n. f (totals_in l) + n) (mapped f ls)
    ∙ sym (sum_by-cons (λ l. f (totals_in l)) l ls)

small : (f : Line → ℕ) (ls : List Line) → length ls < 2 ^ 63 → ((l : Line) → f l ≤ 2)
    → sum_by f ls % 2 ^ 64 ≡ sum_by f ls
small f ls short few =
    let most = sum_by-le f 2 ls (λ k d lt. few _) in
    omega (arith, most, short)

-- y has the numbers of the line that is shown, of whose packet the bytes were counted
abbrev pub Counts : Bor Line → Totals → Type 0
Counts z y = (y ≡ totals_in z.now) × (y.octets < 2 ^ 64)

octets-most : (zs : List (Bor Line)) (ys : List Totals)
    → AllZip Counts zs ys
    → sum_by octets ys ≤ length zs * (2 ^ 64 - 1)
octets-most [] [] h = omega arith
octets-most [] (y ∷ ys) h = absurd h
octets-most (z ∷ zs) [] h = absurd h
octets-most (z ∷ zs) (y ∷ ys) h =
    omega (arith, h.0.1, octets-most zs ys h.1, sum_by-cons octets y ys)

octets-fit : (n count : ℕ) → n ≤ count * (2 ^ 64 - 1) → count < 2 ^ 63 → n % 2 ^ 128 ≡ n
octets-fit n count most short = omega (arith, most, short)

-- ---- the whole

whole : (f : Totals → ℕ) (ls : List Line) (r : ℕ) → length ls < 2 ^ 63
    → ((l : Line) → f (totals_in l) ≤ 2) → r ≡ sum_by f (map totals_in ls) % 2 ^ 64
    → r ≡ sum_by (λ l. f (totals_in l)) ls
whole f ls r short few h =
    h ∙ ap (λ n. n % 2 ^ 64) (mapped f ls) ∙ small (λ l. f (totals_in l)) ls short few

-- the sums over the lines of a run, of which each fits
totals-whole : (ls : List Line) (r : Totals) → length ls < 2 ^ 63
    → sum_by octets (map totals_in ls) ≤ length ls * (2 ^ 64 - 1)
    → IsWrapped (map totals_in ls) r → r ≡ totals ls
unfolding totals totals_in
totals-whole ls r short most h =
    let e1 = whole packets ls r.packets short packets-few h.packets_sum in
    let e2 = whole frames ls r.frames short frames-few h.frames_sum in
    let e3 = whole up ls r.up short ups-few h.up_sum in
    let e4 = whole delivered ls r.delivered short delivered-few h.delivered_sum in
    let e5 = h.octets_sum ∙ octets-fit _ (length ls) most short ∙ mapped octets ls in
    rw (sym e1, sym e2, sym e3, sym e4, sym e5) refl

-- the same, where the totals of the lines were made by threads, from what each made of its own
pub totals-gathered : (zs : List (Bor Line)) (ls : List Line) (ys : List Totals) (r : Totals)
    → map (λ (z : Bor Line). z.now) zs ≡ ls
    → AllZip Counts zs ys
    → length ls < 2 ^ 63 → IsWrapped ys r → r ≡ totals ls
totals-gathered zs ls ys r shown each short h =
    let numbers = AllZip-weaken Counts (λ z y. y ≡ totals_in z.now)
    (λ z y both. both.0) zs ys each in
    let same = slice-map zs ls shown totals_in ys numbers in
    let counted = slice-length zs ls shown in
    let most = octets-most zs ys each in
    totals-whole ls r short
    (subst (λ n. sum_by octets (map totals_in ls) ≤ n * (2 ^ 64 - 1)) counted
    (subst (λ ts. sum_by octets ts ≤ length zs * (2 ^ 64 - 1)) same most))
    (subst (λ ts. IsWrapped ts r) same h)
