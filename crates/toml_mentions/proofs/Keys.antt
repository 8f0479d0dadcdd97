-- The parts of keys, one behind the other.
use Rattle.std.proofs.Common.{◌≡◌, ◌<◌, ◌≤◌, ◌+◌, ℕ, zero, suc, List, [], ◌∷◌, ◌++◌, map, length, drop, get_or, Option, Some, refl, sym, ap, ◌∙◌, subst, arith, append_assoc}
use Rattle.std.proofs.lemmas.List.{drop_all, drop_more, length-map, map-append}
use Rattle.toml_tree.specs.Tree.{Piece, Dotted, Key}
use Rattle.toml_tree.specs.View.{dotted as made_dotted}
use Rattle.toml_tree.specs.declared.tree.Dotted.{Dotted as MadeDotted}
use Rattle.toml_names.specs.declared.mentions.mention.Role.TheVariants.{Passed, Dotted as dotted, Valued}
use Rattle.toml_names.specs.model.Addresses.{Address, child}
use Rattle.toml_names.specs.mentions.Keys.{key_names, part_name, rest_names}
use Rattle.toml_names.specs.mentions.Mentions.{Named, entered, followed, table_at}
use Rattle.toml_mentions.specs.Sought.{Counts, IsFrontOf, IsKeySeen, IsPassed, Part, Sees, Sight, followed_parts, key_end, key_parts, part_at, passes, sights, way_to}
use Rattle.toml_mentions.specs.declared.seeker.Seeker.{Seeker}
use Rattle.toml_mentions.proofs.Sights.{sees_none, sees_then}

-- the first parts of a header's key were passed
pub record Passing (old new : Seeker) (earlier : List Named) (k : Key) (i : ℕ) (way : Option ℕ) (p : Piece) : Type 0 where
  pub at : Address
  pub done : List Part
  pub is : way ≡ way_to old.target.now at
  pub parts : (end : Address → Piece → List Part) → followed_parts earlier end [] k.first k.rest ≡ done ++ followed_parts earlier end at p (drop i k.rest)
  pub names : (line : ℕ) (end : Address → List Named) → followed line earlier end [] (key_names k) ≡ passes line done ++ followed line earlier end at (part_name p ∷ rest_names (drop i k.rest))
  pub sees : Sees old new (sights old.target.now done)

pub passing_none : (s : Seeker) (earlier : List Named) (k : Key) → Passing s s earlier k 0 (Some 0) k.first
passing_none s earlier k = record {
  at = [];
  done = [];
  is = refl;
  parts = λ end. refl;
  names = λ line end. refl;
  sees = sees_none s;
}

module _ (old mid new : Seeker) (earlier : List Named) (k : Key) (i : ℕ) (way : Option ℕ) (p : Piece) (so : Passing old mid earlier k i way p) (low : i < length k.rest) (d : Dotted) (is : d ≡ get_or k.rest i d)
    (to : Option ℕ) (passed : IsPassed mid new so.at earlier p to) where
  left : drop i k.rest ≡ d ∷ drop (i + 1) k.rest
  left = subst (λ x. drop i k.rest ≡ x ∷ drop (i + 1) k.rest) (sym is) (drop_more k.rest i d low)

  into : Address
  into = entered earlier (child so.at (part_name p))

  this : Part
  this = part_at Passed (entered earlier (child so.at (part_name p))) p

  parts_on : (end : Address → Piece → List Part) → followed_parts earlier end [] k.first k.rest
      ≡ (so.done ++ part_at Passed (entered earlier (child so.at (part_name p))) p ∷ []) ++ followed_parts earlier end (entered earlier (child so.at (part_name p))) d.part (drop (i + 1) k.rest)
  parts_on end =
      so.parts end
      ∙ (ap (λ ds. so.done ++ followed_parts earlier end so.at p ds) left
      ∙ sym (append_assoc so.done (part_at Passed (entered earlier (child so.at (part_name p))) p ∷ []) (followed_parts earlier end (entered earlier (child so.at (part_name p))) d.part (drop (i + 1) k.rest))))

  names_on : (line : ℕ) (end : Address → List Named) → followed line earlier end [] (key_names k)
      ≡ passes line (so.done ++ part_at Passed (entered earlier (child so.at (part_name p))) p ∷ [])
      ++ followed line earlier end (entered earlier (child so.at (part_name p))) (part_name d.part ∷ rest_names (drop (i + 1) k.rest))
  names_on line end =
      let at = entered earlier (child so.at (part_name p)) in
      let more = followed line earlier end at (part_name d.part ∷ rest_names (drop (i + 1) k.rest)) in
      so.names line end
      ∙ (ap (λ ds. passes line so.done ++ followed line earlier end so.at (part_name p ∷ rest_names ds)) left
      ∙ (sym (append_assoc (passes line so.done) (table_at line Passed at ∷ []) more)
      ∙ ap (λ l. l ++ more) (sym (map-append (λ (q : Part). table_at line Passed q.address) so.done (part_at Passed at p ∷ [])))))

  pub passing_more : Passing old new earlier k (i + 1) to d.part
  passing_more = record {
    at = entered earlier (child so.at (part_name p));
    done = so.done ++ part_at Passed (entered earlier (child so.at (part_name p))) p ∷ [];
    is = passed.is ∙ ap (λ t. way_to t.now (entered earlier (child so.at (part_name p)))) so.sees.target;
    parts = parts_on;
    names = names_on;
    sees = sees_then old mid new so.done (part_at Passed (entered earlier (child so.at (part_name p))) p ∷ []) so.sees passed.sees;
  }

pub passing_all : (old new : Seeker) (earlier : List Named) (k : Key) (i : ℕ) (way : Option ℕ) (p : Piece) → length k.rest ≤ i → Passing old new earlier k i way p → IsFrontOf old new earlier k way p
passing_all old new earlier k i way p past so =
    let none : drop i k.rest ≡ [] = drop_all i k.rest past in
    record {
      at = so.at;
      done = so.done;
      is = so.is;
      parts = λ end. so.parts end ∙ ap (λ ds. so.done ++ followed_parts earlier end so.at p ds) none;
      names = λ line end. so.names line end ∙ ap (λ ds. passes line so.done ++ followed line earlier end so.at (part_name p ∷ rest_names ds)) none;
      sees = so.sees;
    }

-- the first parts of a key in the table at an address were seen
pub record Keying (old new : Seeker) (from : Address) (k : Key) (i : ℕ) (way : Option ℕ) (p : Piece) : Type 0 where
  pub at : Address
  pub done : List Part
  pub is : way ≡ way_to old.target.now at
  pub parts : key_parts from k.first k.rest ≡ done ++ key_parts at p (drop i k.rest)
  pub end : key_end from k.first k.rest ≡ key_end at p (drop i k.rest)
  pub sees : Sees old new (sights old.target.now done)

module _ (old mid new : Seeker) (from : Address) (k : Key) (i : ℕ) (way : Option ℕ) (p : Piece) (so : Keying old mid from k i way p) where
  pub keying_more : i < length k.rest → (d : Dotted) → d ≡ get_or k.rest i d → (to : Option ℕ) → to ≡ way_to mid.target.now (child so.at (part_name p))
      → Sees mid new (sights mid.target.now (part_at dotted (child so.at (part_name p)) p ∷ [])) → Keying old new from k (i + 1) to d.part
  keying_more low d is to h sees =
      let left : drop i k.rest ≡ d ∷ drop (i + 1) k.rest = subst (λ x. drop i k.rest ≡ x ∷ drop (i + 1) k.rest) (sym is) (drop_more k.rest i d low) in
      record {
        at = child so.at (part_name p);
        done = so.done ++ part_at dotted (child so.at (part_name p)) p ∷ [];
        is = h ∙ ap (λ t. way_to t.now (child so.at (part_name p))) so.sees.target;
        parts = so.parts ∙ (ap (λ ds. so.done ++ key_parts so.at p ds) left
            ∙ sym (append_assoc so.done (part_at dotted (child so.at (part_name p)) p ∷ []) (key_parts (child so.at (part_name p)) d.part (drop (i + 1) k.rest))));
        end = so.end ∙ ap (λ ds. key_end so.at p ds) left;
        sees = sees_then old mid new so.done (part_at dotted (child so.at (part_name p)) p ∷ []) so.sees sees;
      }

  pub keying_all : length k.rest ≤ i → (to : Option ℕ) → to ≡ way_to mid.target.now (child so.at (part_name p))
      → Sees mid new (sights mid.target.now (part_at Valued (child so.at (part_name p)) p ∷ [])) → IsKeySeen old new from k to
  keying_all past to h sees =
      let none : drop i k.rest ≡ [] = drop_all i k.rest past in
      let end : key_end from k.first k.rest ≡ child so.at (part_name p) = so.end ∙ ap (λ ds. key_end so.at p ds) none in
      let parts : key_parts from k.first k.rest ≡ so.done ++ part_at Valued (child so.at (part_name p)) p ∷ [] =
      so.parts ∙ ap (λ ds. so.done ++ key_parts so.at p ds) none in
      record {
        is = h ∙ (ap (λ t. way_to t.now (child so.at (part_name p))) so.sees.target ∙ ap (λ a. way_to old.target.now a) (sym end));
        sees = subst (λ l. Sees old new (sights old.target.now l)) (sym parts) (sees_then old mid new so.done (part_at Valued (child so.at (part_name p)) p ∷ []) so.sees sees);
      }

-- what is seen leaves the counts
pub counts_kept : (a b : Seeker) (xs : List Sight) (earlier : List Named) → Sees a b xs → Counts a.tables.items a.target.now earlier → Counts b.tables.items b.target.now earlier
counts_kept a b xs earlier sees counts =
    subst (λ ts. Counts ts.items b.target.now earlier) (sym sees.tables) (subst (λ t. Counts a.tables.items t.now earlier) (sym sees.target) counts)

-- a part of a key behind the first
dotted_get : (xs : List MadeDotted) (i : ℕ) (d : MadeDotted) → get_or (map made_dotted xs) i (made_dotted d) ≡ made_dotted (get_or xs i d)
dotted_get [] i d = refl
dotted_get (x ∷ xs) zero d = refl
dotted_get (x ∷ xs) (suc i) d = dotted_get xs i d

pub dotted_there : (all lent : List MadeDotted) → lent ≡ all → (i : ℕ) (x : MadeDotted) → i < length lent → x ≡ get_or lent i x
    → (i < length (map made_dotted all)) × (made_dotted x ≡ get_or (map made_dotted all) i (made_dotted x))
dotted_there all lent same i x low is = (
  omega (arith, low, ap length same, length-map all made_dotted),
  ap made_dotted is ∙ (sym (dotted_get lent i x) ∙ ap (λ l. get_or (map made_dotted l) i (made_dotted x)) same),
)
