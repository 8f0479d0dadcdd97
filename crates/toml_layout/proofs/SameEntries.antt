-- Entries of one outline are entry for entry of one outline.
use Rattle.std.proofs.Common.{◌≡◌, ◌∙◌, List, [], ◌∷◌, Option, refl, ap, ap₂, sym}
use Rattle.toml_layout.specs.OpenOutlines.{EntryOutline, entries_of}
use Rattle.toml_layout.specs.Outlines.{AssignOutline, EntriesOutline, ValueOutline, End, Entry}
use Rattle.toml_layout.specs.Parts.{PartOutline}

pub outlines_same : (x y : EntryOutline) → x.before ≡ y.before → x.assign ≡ y.assign → x.value ≡ y.value → x.after ≡ y.after → x ≡ y
outlines_same x y before key own after =
    ap (λ t. record x { before = t }) before ∙ ap (λ t. record x { before = y.before; assign = t }) key
    ∙ ap (λ t. record y { value = t; after = x.after }) own ∙ ap (λ t. record y { after = t }) after

same_end : (g h : Option (List PartOutline)) → End g ≡ End h → g ≡ h
same_end g h same = cc

same_entry : (b c : List PartOutline) (k l : Option AssignOutline) (v w : ValueOutline) (a d : List PartOutline) (es fs : EntriesOutline)
    → Entry b k v a es ≡ Entry c l w d fs → (b ≡ c) × (k ≡ l) × (v ≡ w) × (a ≡ d) × (es ≡ fs)
same_entry b c k l v w a d es fs same = (cc, cc, cc, cc, cc)

not_entry : (g : Option (List PartOutline)) (c : List PartOutline) (l : Option AssignOutline) (w : ValueOutline) (d : List PartOutline) (fs : EntriesOutline)
    → End g ≡ Entry c l w d fs → ⊥
not_entry g c l w d fs same = cc

pub entries_apart : (xs ys : List EntryOutline) (g h : Option (List PartOutline)) → entries_of xs g ≡ entries_of ys h → (xs ≡ ys) × (g ≡ h)
entries_apart [] [] g h same = (refl, same_end g h same)
entries_apart [] (y ∷ ys) g h same = absurd (not_entry g y.before y.assign y.value y.after (entries_of ys h) same)
entries_apart (x ∷ xs) [] g h same = absurd (not_entry h x.before x.assign x.value x.after (entries_of xs g) (sym same))
entries_apart (x ∷ xs) (y ∷ ys) g h same =
    let one = same_entry x.before y.before x.assign y.assign x.value y.value x.after y.after (entries_of xs g) (entries_of ys h) same in
    let rest = entries_apart xs ys g h one.4 in
    (ap₂ ◌∷◌ (outlines_same x y one.0 one.1 one.2 one.3) rest.0, rest.1)
