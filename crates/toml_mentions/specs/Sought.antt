-- Words of the code's own contracts: what is seen of one address while the lines of a text go by.
use Rattle.std.specs.Prelude.{◌≡◌, ◌⊎◌, ◌≤◌, ◌<◌, ◌+◌, ◌++◌, ◌&&◌, ℕ, Bool, true, false, List, [], ◌∷◌, length, map, take, Option, Some, None, option_map, if◌then◌else◌, slice_index, slice_set}
use Rattle.toml_text.specs.declared.span.Span.{Span}
use Rattle.toml_tree.specs.HandedOut.{AreLinesIn, left as left_of}
use Rattle.toml_tree.specs.Profiles.{SpelledByNone}
use Rattle.toml_tree.specs.declared.line_reader.LineReader.{LineReader}
use Rattle.toml_tree.specs.declared.profile.Profile.{Profile}
use Rattle.toml_tree.specs.Tree.{Piece, Dotted, Key, Assign, Value, Scalar, Array, Inline, Items, Close, Last, More, Pairs, ClosePairs, LastPair, MorePairs, Expr, BlankLine, KeyValLine, TableLine, ArrayTableLine, Line}
use Rattle.toml_names.specs.declared.model.address.Step.{Step}
use Rattle.toml_names.specs.declared.mentions.mention.Role.{Role}
use Rattle.toml_names.specs.declared.mentions.mention.Role.TheVariants.{Passed, Header, Dotted as dotted, Valued, Tables, Element}
use Rattle.toml_names.specs.model.Addresses.{Address, same_address, same_step, child, element}
use Rattle.toml_names.specs.mentions.Keys.{key_names, part_name}
use Rattle.toml_names.specs.mentions.Mentions.{Named, count_tables, ends_tables, entered, followed, named, named_by, root, section, table_at}
use Rattle.toml_names.specs.mentions.Rules.{may_follow}
use Rattle.toml_names.specs.reader.Texts.{AreLeft, more_left}
use Rattle.toml_mentions.specs.declared.role.Role as own
use Rattle.toml_mentions.specs.declared.role.Role.TheVariants as roles
use Rattle.toml_mentions.specs.declared.seeker.Clash.{Clash}
use Rattle.toml_mentions.specs.declared.seeker.Mention.{Mention}
use Rattle.toml_mentions.specs.declared.seeker.Seeker.{Seeker}

-- a mention, and the key part that stands for it
pub record Part : Type 0 where
  pub address : Address
  pub role : Role
  pub piece : Piece

abbrev pub part_at : Role → Address → Piece → Part
part_at role at p = record { address = at; role = role; piece = p }

-- of a key in the table at the address: each front is a table of dotted keys, the whole a value
abbrev pub key_parts : Address → Piece → List Dotted → List Part
key_parts at p [] = part_at Valued (child at (part_name p)) p ∷ []
key_parts at p (d ∷ ds) = part_at dotted (child at (part_name p)) p ∷ key_parts (child at (part_name p)) d.part ds

-- the address to which it leads
abbrev pub key_end : Address → Piece → List Dotted → Address
key_end at p [] = child at (part_name p)
key_end at p (d ∷ ds) = key_end (child at (part_name p)) d.part ds

-- in a value at the address
abbrev mutual
  pub inside_parts : Address → Value → List Part
  inside_parts at (Scalar kind p) = []
  inside_parts at (Array whole items) = element_parts at 0 items
  inside_parts at (Inline whole pairs) = member_parts at pairs

  pub element_parts : Address → ℕ → Items → List Part
  element_parts at i (Close g) = []
  element_parts at i (Last g v h) = inside_parts (element at i) v
  element_parts at i (More g v h is) = inside_parts (element at i) v ++ element_parts at (i + 1) is

  pub member_parts : Address → Pairs → List Part
  member_parts at (ClosePairs g) = []
  member_parts at (LastPair g a v h) = key_parts at a.key.first a.key.rest ++ inside_parts (key_end at a.key.first a.key.rest) v
  member_parts at (MorePairs g a v h ps) = (key_parts at a.key.first a.key.rest ++ inside_parts (key_end at a.key.first a.key.rest) v) ++ member_parts at ps

-- of a pair
abbrev pub pair_parts : Address → Assign → Value → List Part
pair_parts at a v = key_parts at a.key.first a.key.rest ++ inside_parts (key_end at a.key.first a.key.rest) v

-- of a header's key, followed from the address to its end
abbrev pub followed_parts : List Named → (Address → Piece → List Part) → Address → Piece → List Dotted → List Part
followed_parts earlier end at p [] = end (child at (part_name p)) p
followed_parts earlier end at p (d ∷ ds) =
    part_at Passed (entered earlier (child at (part_name p))) p ∷ followed_parts earlier end (entered earlier (child at (part_name p))) d.part ds

abbrev pub table_parts : Address → Piece → List Part
table_parts at p = part_at Header at p ∷ []

abbrev pub tables_parts : List Named → Address → Piece → List Part
tables_parts earlier at p = part_at Tables at p ∷ part_at Element (element at (count_tables earlier at)) p ∷ []

-- of a line, behind what was named before
abbrev pub parts_by : List Named → Expr → List Part
parts_by earlier (BlankLine b) = []
parts_by earlier (KeyValLine ws pair tail) = pair_parts (section earlier) pair.assign pair.value
parts_by earlier (TableLine ws header tail) = followed_parts earlier table_parts [] header.key.first header.key.rest
parts_by earlier (ArrayTableLine ws header tail) = followed_parts earlier (tables_parts earlier) [] header.key.first header.key.rest

-- of lines, from one on
abbrev pub parts_from : List Named → ℕ → List Line → List Part
parts_from earlier line [] = []
parts_from earlier line (l ∷ ls) = parts_by earlier l.expr ++ parts_from (earlier ++ named_by earlier line l.expr) (line + 1) ls

abbrev pub all_parts : List Line → List Part
all_parts = parts_from (root ∷ []) 0

-- a mention of the sought address: its role, and where its key part stands
pub record Sight : Type 0 where
  pub role : Role
  pub span : Span

abbrev pub span_of : Piece → Span
span_of p = record { start = p.start; end = p.start + length p.text }

abbrev pub sight_of : Part → Sight
sight_of p = record { role = p.role; span = span_of p.piece }

-- those among the parts
abbrev pub sights : Address → List Part → List Sight
sights at [] = []
sights at (p ∷ ps) = if same_address p.address at then sight_of p ∷ sights at ps else sights at ps

-- the first of them
abbrev pub first_sight : List Sight → Option Sight
first_sight [] = None
first_sight (s ∷ ss) = Some s

-- the earliest of them that may not be followed by one in the role
abbrev pub forbidding : Role → List Sight → Option Sight
forbidding r [] = None
forbidding r (s ∷ ss) = if may_follow s.role r then forbidding r ss else Some s

-- the first of two that is there
abbrev pub first_some : {A : Type 0} → Option A → Option A → Option A
first_some None o = o
first_some (Some a) o = Some a

-- it, and the one that it forbids
abbrev pub forbidden_by : Option Sight → Sight → Option (Sight × Sight)
forbidden_by None s = None
forbidden_by (Some f) s = Some (f, s)

-- the first that may not follow an earlier one, behind the earliest that forbids it
abbrev pub clash_from : List Sight → List Sight → Option (Sight × Sight)
clash_from earlier [] = None
clash_from earlier (s ∷ ss) = first_some (forbidden_by (forbidding s.role earlier) s) (clash_from (earlier ++ s ∷ []) ss)

abbrev pub first_clash : List Sight → Option (Sight × Sight)
first_clash = clash_from []

-- the address is a beginning of the target
abbrev pub is_front : Address → Address → Bool
is_front [] target = true
is_front (s ∷ at) [] = false
is_front (s ∷ at) (t ∷ target) = same_step s t && is_front at target

-- how many steps of the way to the target lead to the address; none where it is off the way
abbrev pub way_to : Address → Address → Option ℕ
way_to target at = if is_front at target then Some (length at) else None

abbrev pub role_of : own.Role → Role
role_of roles.Passed = Passed
role_of roles.Header = Header
role_of roles.Dotted = dotted
role_of roles.Valued = Valued
role_of roles.Tables = Tables
role_of roles.Element = Element

abbrev pub seen_of : Mention → Sight
seen_of m = record { role = role_of m.role; span = m.span }

abbrev pub seen_clash : Option Clash → Option (Sight × Sight)
seen_clash = option_map (λ (c : Clash). (seen_of c.first, seen_of c.again))

-- one of them is in the role
abbrev pub HasRole : Role → List Sight → Type 0
HasRole r [] = ⊥
HasRole r (s ∷ ss) = (s.role ≡ r) ⊎ HasRole r ss

-- what is kept forbids as what was kept before, and one sight more
abbrev pub ForbidAs : List Sight → List Sight → Sight → Type 0
ForbidAs new old s = (r : Role) → forbidding r new ≡ forbidding r (old ++ s ∷ [])

-- what is kept behind one sight more: it forbids as all do, and the first is the same
pub record Keeps (new old : List Sight) (s : Sight) : Type 0 where
  pub forbid : ForbidAs new old s
  pub first : first_sight new ≡ first_sight (old ++ s ∷ [])

-- what was kept of these sights: the first of all, for each role the earliest that forbids it, and the first clash
pub record IsSeen (firsts : List Mention) (clash : Option Clash) (ss : List Sight) : Type 0 where
  pub first : first_sight (map seen_of firsts) ≡ first_sight ss
  pub earliest : (r : Role) → forbidding r (map seen_of firsts) ≡ forbidding r ss
  pub clash_is : seen_clash clash ≡ first_clash ss

-- these sights more were seen, and the place in the text is the same
pub record Sees (old new : Seeker) (more : List Sight) : Type 0 where
  pub target : new.target ≡ old.target
  pub tables : new.tables ≡ old.tables
  pub section : new.section ≡ old.section
  pub seen : (ss : List Sight) → IsSeen old.firsts.items old.clash ss → IsSeen new.firsts.items new.clash (ss ++ more)

-- a count by the number of steps of the way; none off it
abbrev pub count_at : List ℕ → Option ℕ → ℕ
count_at counts None = 0
count_at counts (Some d) = slice_index counts d

-- the counts with another one there
abbrev pub set_at : List ℕ → Option ℕ → ℕ → List ℕ
set_at counts None n = counts
set_at counts (Some d) n = slice_set counts d n

-- how many tables the arrays on the way to the target have, behind what was named
pub record Counts (counts : List ℕ) (target : Address) (earlier : List Named) : Type 0 where
  pub long : length counts ≡ length target + 1
  pub each : (d : ℕ) → d ≤ length target → slice_index counts d ≡ count_tables earlier (take d target)

-- the place in the text behind what `n` lines named
pub record Stands (s : Seeker) (earlier : List Named) (n : ℕ) : Type 0 where
  pub counts : Counts s.tables.items s.target.now earlier
  pub section : s.section ≡ way_to s.target.now (section earlier)
  pub few : (at : Address) → count_tables earlier at ≤ n

-- a header's key went on behind a part
pub record IsPassed (old new : Seeker) (at : Address) (earlier : List Named) (p : Piece) (way : Option ℕ) : Type 0 where
  pub is : way ≡ way_to old.target.now (entered earlier (child at (part_name p)))
  pub sees : Sees old new (sights old.target.now (part_at Passed (entered earlier (child at (part_name p))) p ∷ []))

-- the fronts of a header's key that were passed
abbrev pub passes : ℕ → List Part → List Named
passes line = map (λ (q : Part). table_at line Passed q.address)

-- all parts of a header's key were passed but the last
pub record IsFrontOf (old new : Seeker) (earlier : List Named) (k : Key) (way : Option ℕ) (p : Piece) : Type 0 where
  pub at : Address
  pub done : List Part
  pub is : way ≡ way_to old.target.now at
  pub parts : (end : Address → Piece → List Part) → followed_parts earlier end [] k.first k.rest ≡ done ++ end (child at (part_name p)) p
  pub names : (line : ℕ) (end : Address → List Named) → followed line earlier end [] (key_names k) ≡ passes line done ++ end (child at (part_name p))
  pub sees : Sees old new (sights old.target.now done)

-- one more element of an array of tables was taken in
pub record TakesElement (old new : Seeker) (at : Address) (earlier : List Named) (p : Piece) (way : Option ℕ) : Type 0 where
  pub is : way ≡ way_to old.target.now (element at (count_tables earlier at))
  pub target : new.target ≡ old.target
  pub counts : (line : ℕ) → Counts new.tables.items new.target.now (earlier ++ ends_tables line earlier at)
  pub seen : (ss : List Sight) → IsSeen old.firsts.items old.clash ss
      → IsSeen new.firsts.items new.clash (ss ++ sights old.target.now (tables_parts earlier at p))

-- how many lines a text has at most
abbrev pub most_lines : ℕ
most_lines = 18446744073709551615

-- a line more was taken in
pub record Takes (old new : Seeker) (earlier : List Named) (n : ℕ) (more : List Sight) : Type 0 where
  pub target : new.target ≡ old.target
  pub stands : Stands new earlier n
  pub seen : (ss : List Sight) → IsSeen old.firsts.items old.clash ss → IsSeen new.firsts.items new.clash (ss ++ more)

abbrev pub TakesExpr : Seeker → Seeker → Expr → Type 0
TakesExpr old new e = (earlier : List Named) (n line : ℕ) → Stands old earlier n → n < most_lines
    → Takes old new (earlier ++ named_by earlier line e) (n + 1) (sights old.target.now (parts_by earlier e))

-- a key was seen in the table at an address
pub record IsKeySeen (old new : Seeker) (at : Address) (k : Key) (way : Option ℕ) : Type 0 where
  pub is : way ≡ way_to old.target.now (key_end at k.first k.rest)
  pub sees : Sees old new (sights old.target.now (key_parts at k.first k.rest))

-- the first lines of the text were taken in, and these are left
pub record AreSought (target : Address) (profile : Profile) (text : List ℕ) (front : List Line) (left : Option LineReader) (s : Seeker) : Type 0 where
  pub are : AreLeft profile text front left
  pub target_is : s.target.now ≡ target
  pub stands : Stands s (named front) (length front)
  pub seen : IsSeen s.firsts.items s.clash (sights target (all_parts front))

-- one line more was taken in, and less is left; or no tree spells the text
abbrev pub SeeksOn : Address → Profile → List ℕ → List Line → ℕ → Seeker → Option LineReader → Type 0
SeeksOn target profile text front n new left =
    ((l : Line) × AreSought target profile text (front ++ l ∷ []) left new × (more_left left < n + 1)) ⊎ ((left ≡ None) × SpelledByNone profile text)

abbrev pub SeeksNext : Seeker → LineReader → Seeker → Option LineReader → Type 0
SeeksNext old reader new left = (target : Address) (profile : Profile) (text : List ℕ) (front : List Line) → AreSought target profile text front (Some reader) old
    → length front < most_lines → SeeksOn target profile text front (left_of reader) new left

-- all lines were taken in, if the text has a tree
abbrev pub SoughtIn : Address → Profile → List ℕ → Seeker → Type 0
SoughtIn target profile text s = (lines : List Line) → AreLinesIn profile text lines → IsSeen s.firsts.items s.clash (sights target (all_parts lines))
