-- Two texts on the way through their units.
use Rattle.std.specs.Prelude.{◌≡◌, ◌↔◌, ◌⊎◌, ◌<◌, ◌≤◌, ◌+◌, ◌∷◌, ◌++◌, [], ℕ, Bool, true, false, IsTrue, List, Option, Some, None, IsSome, MatchOption, Result, IfOk, OnOk, length}
use Rattle.std.specs.declared.alloc.AllocError.{AllocError}
use Rattle.std.specs.Bool.{nat_lt}
use Rattle.std.specs.List.{flat_map}
use Rattle.toml_text.specs.Limit.{IsText}
use Rattle.toml_tree.specs.Spells.{EachIs}
use Rattle.toml_tree.specs.HandedOut.{AreLinesIn}
use Rattle.toml_tree.specs.Tree.{Doc, Line}
use Rattle.toml_tree.specs.declared.profile.Profile.{Profile}
use Rattle.toml_names.specs.declared.line_names.LineNames.{LineNames}
use Rattle.toml_names.specs.model.Documents.{IsDocumentIn}
use Rattle.toml_names.specs.reader.LineNames.{StandFor}
use Rattle.toml_edits.specs.Edits.{Change}
use Rattle.toml_units.specs.declared.cursor.UnitCursor.{UnitCursor}
use Rattle.toml_units.specs.Cursors.{Ends, Goes, Walks, current, to_go}
use Rattle.toml_units.specs.Lined.{LinedUnit}
use Rattle.toml_units.specs.View.{unit}
use Rattle.toml_checker.specs.declared.added.Added.{Added}
use Rattle.toml_checker.specs.declared.added.Asked.{Asked}
use Rattle.toml_checker.specs.declared.edit_list.EditList.{EditList}
use Rattle.toml_checker.specs.declared.kept.Fate.{Fate}
use Rattle.toml_checker.specs.declared.pairs.Spot.{Spot}
use Rattle.toml_edits.specs.declared.walking.Sight.{Sight}
use Rattle.toml_checker.specs.declared.walk.FirstText.{FirstText}
use Rattle.toml_checker.specs.declared.walk.SecondText.{SecondText}
use Rattle.toml_checker.specs.declared.walk.Found.{Found}
use Rattle.toml_checker.specs.declared.walk.Said.{Said}
use Rattle.toml_checker.specs.declared.walk.Walk.{Walk}
use Rattle.toml_checker.specs.declared.written.Written.{Written}
use Rattle.toml_checker.specs.Comments.{NoCommentsAdded, times}
use Rattle.toml_checker.specs.Counts.{plain}
use Rattle.toml_checker.specs.Kept.{AllKept}
use Rattle.toml_checker.specs.Lines.{NoLinesAdded}
use Rattle.toml_checker.specs.WrittenComments.{HaveValues}
use Rattle.toml_checker.specs.Added.{Asks, HasAdded}
use Rattle.toml_checker.specs.EditLists.{changes}
use Rattle.toml_checker.specs.Marks.{IsSet}
use Rattle.toml_checker.specs.Pairs.{IsFirst, IsSecond, PairsFit, Rise}
use Rattle.toml_checker.specs.Sights.{HasSight}
use Rattle.toml_checker.specs.Traces.{AreAlike, MayBe, Met, StandsIn, kept_over, lined_of, paired_of, fate_of}
use Rattle.toml_checker.specs.UnmarkedComments.{text_at}

-- the unit at which the code looks, with its newline
abbrev pub lined_at : Spot → LinedUnit
lined_at s = record { unit = unit s.unit.now; newline = s.newline.now }

-- the bytes of that unit
abbrev pub bytes_at : Spot → List ℕ
bytes_at s = text_at s.text.now (lined_at s).unit

-- two units in their texts are the same, but for where the edits carry them
abbrev pub AreAlikeAt : List Change → Spot → Spot → Type 0
AreAlikeAt cs one other = AreAlike cs one.text.now (lined_at one) other.text.now (lined_at other)

-- each new comment is one that an edit writes, and no text stands more often among them than in what edits write
abbrev pub AddsNoComments : Asked → Added → Type 0
AddsNoComments asked added = IsTrue added.allowed × ((t : List ℕ) → times t (plain added.texts.items) ≤ times t (flat_map (λ (w : Written). plain w.texts.items) asked.written.items))

-- the numbers of units have 64 bits
abbrev pub IsFew : List LinedUnit → Type 0
IsFew xs = length xs < 18446744073709551616

-- these units of the first text were walked past
pub record HasPassed (profile : Profile) (cs : List Change) (one : FirstText) (ms : List Met) : Type 0 where
  pub walks : Walks profile one.text.now one.cursor (lined_of ms)
  pub kept : one.kept ≡ kept_over cs ms
  pub passed : IsFew (lined_of ms) → one.passed ≡ length ms

-- and these of the second one
pub record HasReached (profile : Profile) (asked : Asked) (other : SecondText) (ms : List Met) : Type 0 where
  pub walks : Walks profile other.text.now other.cursor (lined_of ms)
  pub added : HasAdded asked other.text.now ms other.added
  pub passed : IsFew (lined_of ms) → other.passed ≡ length ms

-- more units stand before the number, or there is none
abbrev pub lies_ahead : Option ℕ → ℕ → Bool
lies_ahead None passed = true
lies_ahead (Some n) passed = nat_lt passed n

-- units behind others, up to the number, if there is one and that many units, or to the end
pub record GoesTo (next : Option LinedUnit) (passed : ℕ) (number : Option ℕ) (old_next : Option LinedUnit) (old_passed : ℕ) (old : List Met) (more : List Met) : Type 0 where
  pub unpaired : EachIs (λ (m : Met). m.paired ≡ false) more
  pub stops : (next ≡ None) ⊎ ((n : ℕ) × (number ≡ Some n) × (n ≤ passed))
  pub low : (n : ℕ) → number ≡ Some n → old_passed ≤ n → passed ≤ n
  pub back : (all : List LinedUnit) → MayBe next (lined_of (old ++ more)) all → MayBe old_next (lined_of old) all

-- a unit can be walked past
pub record CanPass (c : UnitCursor) : Type 0 where
  pub goes : Goes c
  pub some : IsSome (current c)

-- a cursor goes on, and comes nearer to the end; and so many units were walked past, at most one more
pub record GoesOn (old : UnitCursor) (passed : ℕ) (new : UnitCursor) (now_passed : ℕ) : Type 0 where
  pub goes : Goes new
  pub less : to_go new < to_go old
  pub count : now_passed ≤ passed + 1

-- this holds of the units with one more behind them, that before which the cursor stood
abbrev pub HoldsWith : (List Met → Type 0) → UnitCursor → List Met → Bool → Type 0
HoldsWith Holds old ms paired = (x : LinedUnit) → current old ≡ Some x → Holds (ms ++ record { lined = x; paired = paired } ∷ [])

-- this holds of the units with more behind them, up to the number or to the end
pub record GoneTo (Holds : List Met → Type 0) (old : UnitCursor) (old_passed : ℕ) (ms : List Met) (number : Option ℕ) (new : UnitCursor) (new_passed : ℕ) : Type 0 where
  pub more : List Met
  pub holds : Holds (ms ++ more)
  pub goes : GoesTo (current new) new_passed number (current old) old_passed ms more

-- one unit more of the first text was walked past
abbrev pub PassesOne : Profile → List Change → FirstText → List Met → Bool → FirstText → Type 0
PassesOne profile cs old ms paired new = HoldsWith (HasPassed profile cs new) old.cursor ms paired

-- units of the first text were walked past, up to the number or to the end
abbrev pub PassesTo : Profile → List Change → FirstText → List Met → Option ℕ → FirstText → Type 0
PassesTo profile cs old ms number new = GoneTo (HasPassed profile cs new) old.cursor old.passed ms number new.cursor new.passed

-- one unit more of the second text was walked past
abbrev pub ReachesOne : Profile → Asked → SecondText → List Met → Bool → SecondText → Type 0
ReachesOne profile asked old ms paired new = HoldsWith (HasReached profile asked new) old.cursor ms paired

-- units of the second text were walked past, up to the number or to the end
abbrev pub ReachesTo : Profile → Asked → SecondText → List Met → Option ℕ → SecondText → Type 0
ReachesTo profile asked old ms number new = GoneTo (HasReached profile asked new) old.cursor old.passed ms number new.cursor new.passed

-- whichever units of the first text were walked past before, one more was, where there is memory
abbrev pub Passing : List Change → FirstText → Bool → FirstText → Result (Unit {0}) AllocError → Type 0
Passing cs old paired new result = (profile : Profile) (ms : List Met) → HasPassed profile cs old ms → OnOk result (PassesOne profile cs old ms paired new)

-- whichever units of the first text were walked past before, the next ones were up to the number, where there is memory
abbrev pub PassingTo : List Change → FirstText → Option ℕ → FirstText → Result (Unit {0}) AllocError → Type 0
PassingTo cs old number new result = (profile : Profile) (ms : List Met) → HasPassed profile cs old ms → OnOk result (PassesTo profile cs old ms number new)

-- whichever units of the second text were walked past before, one more was, where there is memory
abbrev pub Reaching : Asked → SecondText → Bool → SecondText → Result (Unit {0}) AllocError → Type 0
Reaching asked old paired new result = (profile : Profile) (ms : List Met) → HasReached profile asked old ms → OnOk result (ReachesOne profile asked old ms paired new)

-- whichever units of the second text were walked past before, the next ones were up to the number, where there is memory
abbrev pub ReachingTo : Asked → SecondText → Option ℕ → SecondText → Result (Unit {0}) AllocError → Type 0
ReachingTo asked old number new result = (profile : Profile) (ms : List Met) → HasReached profile asked old ms → OnOk result (ReachesTo profile asked old ms number new)

-- the unit before which the first text stands, if there is one, has this sight under the list
abbrev pub SeesNext : EditList → FirstText → Sight → Type 0
SeesNext list one sight = (x : LinedUnit) → current one.cursor ≡ Some x → HasSight list x.unit.address sight

-- this becomes of the unit before which the first text stands
abbrev pub IsFate : List Change → FirstText → Fate → Type 0
IsFate cs one fate = (x : LinedUnit) → current one.cursor ≡ Some x → fate ≡ fate_of cs one.kept x.unit

-- one more unit was walked past, which has this fate, whatever the edits are
abbrev pub PassesWith : FirstText → Fate → Bool → FirstText → Result (Unit {0}) AllocError → Type 0
PassesWith old fate paired new result = (cs : List Change) → IsFate cs old fate → Passing cs old paired new result

-- where there is memory, this was found with the unit before which the second text stands, whichever units were walked past before
abbrev pub AddsNext : Asked → SecondText → Bool → SecondText → Result (Unit {0}) AllocError → Type 0
AddsNext asked old paired new result = (ms : List Met) (x : LinedUnit) → HasAdded asked old.text.now ms old.added → current old.cursor ≡ Some x
    → OnOk result (HasAdded asked old.text.now (ms ++ record { lined = x; paired = paired } ∷ []) new.added)

-- both texts on the way, with what the edits ask for
pub record IsOn (profile : Profile) (cs : List Change) (w : Walk) (ms ns : List Met) : Type 0 where
  pub edits : changes w.list ≡ cs
  pub asks : Asks profile cs w.asked
  pub first : HasPassed profile cs w.one ms
  pub second : HasReached profile w.asked w.other ns

-- both texts stand before their first units
pub record IsBegun (profile : Profile) (before : List ℕ) (cs : List Change) (after : List ℕ) (w : Walk) : Type 0 where
  pub on : IsOn profile cs w [] []
  pub first_text : w.one.text.now ≡ before
  pub second_text : w.other.text.now ≡ after

-- they are for some edits, and after some units
abbrev pub IsGoing : Walk → Type 0
IsGoing w = (profile : Profile) × (cs : List Change) × (ms : List Met) × (ns : List Met) × IsOn profile cs w ms ns

-- the texts stand before the units of the pair, which are the same
pub record IsPairHere (cs : List Change) (one : FirstText) (other : SecondText) (p : ℕ × ℕ) : Type 0 where
  pub first_at : one.passed ≡ p.0
  pub second_at : other.passed ≡ p.1
  pub first : LinedUnit
  pub first_is : current one.cursor ≡ Some first
  pub second : LinedUnit
  pub second_is : current other.cursor ≡ Some second
  pub alike : AreAlike cs one.text.now first other.text.now second

-- whether they do
abbrev pub TellsPair : List Change → FirstText → SecondText → ℕ × ℕ → Bool → Type 0
TellsPair cs one other p holds = IsTrue holds ↔ IsPairHere cs one other p

-- the numbers of a pair are not below these, and its units are the same
pub record NextFits (cs : List Change) (text : List ℕ) (xs : List LinedUnit) (other : List ℕ) (ys : List LinedUnit) (i k : ℕ) (p : ℕ × ℕ) : Type 0 where
  pub first : i ≤ p.0
  pub second : k ≤ p.1
  pub stands : StandsIn cs text xs other ys p.0 p.1

-- these may be all units of the two texts
pub record MayBeAll (w : Walk) (ms ns : List Met) (xs ys : List LinedUnit) : Type 0 where
  pub first : MayBe (current w.one.cursor) (lined_of ms) xs
  pub second : MayBe (current w.other.cursor) (lined_of ns) ys
  pub first_few : IsFew xs
  pub second_few : IsFew ys

-- behind units that were walked past came more, of which the last is the only one that is paired: the one with the number
pub record IsPairedAt (n : ℕ) (old new : List Met) : Type 0 where
  pub marks : (i : ℕ) → IsSet (paired_of new) i ↔ (IsSet (paired_of old) i ⊎ (n ≡ i))
  pub long : length new ≡ n + 1

-- Units were walked past, up to those of the pair; and these too, as paired ones, if they are the same.
pub record PairTold (profile : Profile) (cs : List Change) (old : Walk) (ms ns : List Met) (p : ℕ × ℕ) (new : Walk) (fits : Bool) : Type 0 where
  pub one : List Met
  pub other : List Met
  pub on : IsOn profile cs new (ms ++ one) (ns ++ other)
  pub first_text : new.one.text ≡ old.one.text
  pub second_text : new.other.text ≡ old.other.text
  pub back : (xs ys : List LinedUnit) → MayBeAll new (ms ++ one) (ns ++ other) xs ys → MayBeAll old ms ns xs ys
  pub told : (xs ys : List LinedUnit) → MayBeAll new (ms ++ one) (ns ++ other) xs ys
      → IsTrue fits ↔ NextFits cs old.one.text.now xs old.other.text.now ys (length ms) (length ns) p
  pub marked : (xs ys : List LinedUnit) → MayBeAll new (ms ++ one) (ns ++ other) xs ys → fits ≡ true
      → IsPairedAt p.0 ms (ms ++ one) × IsPairedAt p.1 ns (ns ++ other)

-- all pairs rise, and the units of each are the same
abbrev pub AllFitIn : List Change → List ℕ → List LinedUnit → List ℕ → List LinedUnit → List (ℕ × ℕ) → Type 0
AllFitIn cs text xs other ys ps = Rise ps × EachIs (λ p. StandsIn cs text xs other ys p.0 p.1) ps

-- the units of the pairs are those that are marked
pub record AreMarked (ps : List (ℕ × ℕ)) (ms ns : List Met) : Type 0 where
  pub first : (i : ℕ) → IsSet (paired_of ms) i ↔ IsFirst ps i
  pub second : (k : ℕ) → IsSet (paired_of ns) k ↔ IsSecond ps k

-- Units were walked past up to those of the last pair, or of the first that is not the same.
pub record PairsTold (profile : Profile) (cs : List Change) (old : Walk) (ps : List (ℕ × ℕ)) (new : Walk) (fits : Bool) : Type 0 where
  pub ms : List Met
  pub ns : List Met
  pub on : IsOn profile cs new ms ns
  pub first_text : new.one.text ≡ old.one.text
  pub second_text : new.other.text ≡ old.other.text
  pub told : (xs ys : List LinedUnit) → MayBeAll new ms ns xs ys → IsTrue fits ↔ AllFitIn cs old.one.text.now xs old.other.text.now ys ps
  pub marked : (xs ys : List LinedUnit) → MayBeAll new ms ns xs ys → fits ≡ true → AreMarked ps ms ns

-- both texts were walked through to the end, past these units more
pub record Finishes (profile : Profile) (cs : List Change) (old : Walk) (ms ns : List Met) (fits : Bool) (found : Found) : Type 0 where
  pub one : List Met
  pub other : List Met
  pub one_unpaired : EachIs (λ (m : Met). m.paired ≡ false) one
  pub other_unpaired : EachIs (λ (m : Met). m.paired ≡ false) other
  pub back : IsFew (lined_of (ms ++ one)) → IsFew (lined_of (ns ++ other)) → MayBeAll old ms ns (lined_of (ms ++ one)) (lined_of (ns ++ other))
  pub names : Ends profile old.one.text.now (lined_of (ms ++ one)) found.names
  pub others : Ends profile old.other.text.now (lined_of (ns ++ other)) found.others
  pub fits_is : found.said.fits ≡ fits
  pub kept : found.said.kept ≡ (kept_over cs (ms ++ one)).all
  pub added : Added
  pub has_added : HasAdded old.asked old.other.text.now (ns ++ other) added
  pub lines : found.said.lines ≡ added.lines
  pub comments : IsTrue found.said.comments ↔ AddsNoComments old.asked added

-- whichever units were walked past before, so it is told of the next pair, where there is memory
abbrev pub TellsNext : Walk → ℕ × ℕ → Walk → Result Bool AllocError → Type 0
TellsNext old p new result = (profile : Profile) (cs : List Change) (ms ns : List Met) → IsOn profile cs old ms ns → IfOk result (PairTold profile cs old ms ns p new)

-- so it is told of all pairs, where nothing was walked past before, and there is memory
abbrev pub TellsAll : Walk → List (ℕ × ℕ) → Walk → Result Bool AllocError → Type 0
TellsAll old ps new result = (profile : Profile) (cs : List Change) → IsOn profile cs old [] [] → IfOk result (PairsTold profile cs old ps new)

-- whichever units were walked past before, all others were to the end, and this was found, where there is memory
abbrev pub FinishesOff : Walk → Bool → Result Found AllocError → Type 0
FinishesOff old fits result = (profile : Profile) (cs : List Change) (ms ns : List Met) → IsOn profile cs old ms ns → IfOk result (Finishes profile cs old ms ns fits)

-- the names are those of all lines of the text; without them it is no document
pub record NamesAll (profile : Profile) (text : List ℕ) (names : LineNames) : Type 0 where
  pub fits : IsText text
  pub lines : List Line
  pub are : AreLinesIn profile text lines
  pub stand : StandFor names lines

abbrev pub FindsNames : Profile → List ℕ → Option LineNames → Type 0
FindsNames profile text found = MatchOption found (¬ IsDocumentIn profile text) (NamesAll profile text)

-- what is said of two documents is so of their trees: of the pairs, and where these fit of what is kept and of what is added
pub record Says (profile : Profile) (cs : List Change) (ps : List (ℕ × ℕ)) (d e : Doc) (said : Said) : Type 0 where
  pub pairs : IsTrue said.fits ↔ PairsFit cs d e ps
  pub kept : said.fits ≡ true → IsTrue said.kept ↔ AllKept cs d ps
  pub lines : said.fits ≡ true → IsTrue said.lines ↔ NoLinesAdded cs e ps
  pub comments : said.fits ≡ true → HaveValues profile cs → IsTrue said.comments ↔ NoCommentsAdded cs e ps

-- so it is of the documents that the texts are
abbrev pub SaysOf : Profile → List ℕ → List Change → List ℕ → List (ℕ × ℕ) → Said → Type 0
SaysOf profile before cs after ps said = (old : IsDocumentIn profile before) (new : IsDocumentIn profile after) → Says profile cs ps old.1 new.1 said

-- what was found of two texts
pub record IsFound (profile : Profile) (before : List ℕ) (cs : List Change) (after : List ℕ) (ps : List (ℕ × ℕ)) (found : Found) : Type 0 where
  pub first : FindsNames profile before found.names
  pub second : FindsNames profile after found.others
  pub says : SaysOf profile before cs after ps found.said
