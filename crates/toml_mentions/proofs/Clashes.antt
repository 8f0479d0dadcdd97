-- The first mention that breaks the rules is the one that clashes with an earlier one of its address.
use Rattle.std.proofs.Common.{◌≡◌, ◌⊎◌, inl, inr, ◌<◌, ◌+◌, ℕ, zero, suc, Bool, true, false, List, [], ◌∷◌, ◌++◌, map, length, take, drop, Option, Some, None, refl, sym, ap, ◌∙◌, subst, arith, append_assoc, append-nil}
use Rattle.std.specs.Prelude.{cond, filter, if◌then◌else◌, not, slice_get, ◌||◌, ◌&&◌}
use Rattle.std.specs.List.{list_all}
use Rattle.std.proofs.lemmas.List.{append_cancel_left, length-map, map-append}
use Rattle.std.proofs.lemmas.Option.{none-some}
use Rattle.toml_tree.specs.Tree.{Piece, Line}
use Rattle.toml_names.specs.declared.mentions.mention.Role.{Role}
use Rattle.toml_names.specs.declared.mentions.mention.Role.TheVariants as roles
use Rattle.toml_names.specs.model.Addresses.{Address, same_address}
use Rattle.toml_names.specs.mentions.Mentions.{Named, is_mention, is_mentioned, named, named_by, named_from, root}
use Rattle.toml_names.specs.mentions.Rules.{IsFirstOffence, KeepsRules, fits, may_follow, misfit}
use Rattle.toml_names.specs.reader.Names.{IsRedefined}
use Rattle.toml_names.proofs.Proved.{no_misfit, same_address-decides}
use Rattle.toml_mentions.specs.Mentioned.{mention_pieces}
use Rattle.toml_mentions.specs.Sought.{Part, Sight, all_parts, clash_from, first_clash, first_some, forbidden_by, forbidding, parts_by, parts_from, sight_of, sights}
use Rattle.toml_mentions.proofs.Parted.{At, all_are, at_named, at_part, ats, ats-append, line_is, line_pieces, named_more, part_ats, parts_more, parts_split, pieces}
use Rattle.toml_mentions.proofs.Sights.{sights-append}

mention_or_bare : (r : Role) → (is_mentioned r ≡ true) ⊎ (r ≡ roles.Bare)
mention_or_bare roles.Passed = inl refl
mention_or_bare roles.Header = inl refl
mention_or_bare roles.Dotted = inl refl
mention_or_bare roles.Valued = inl refl
mention_or_bare roles.Tables = inl refl
mention_or_bare roles.Element = inl refl
mention_or_bare roles.Bare = inr refl

follows_bare : (r : Role) → may_follow r roles.Bare ≡ true
follows_bare roles.Passed = refl
follows_bare roles.Header = refl
follows_bare roles.Dotted = refl
follows_bare roles.Valued = refl
follows_bare roles.Tables = refl
follows_bare roles.Element = refl
follows_bare roles.Bare = refl

or_true : (b : Bool) → (b || true) ≡ true
or_true true = refl
or_true false = refl

-- one that may be followed in the role, or is at another address
abbrev lets : Address → Role → At → Bool
lets t r a = not (same_address a.address t) || may_follow a.role r

-- what is no mention lets all
bare_lets : (t : Address) (r : Role) (m : Named) → m.role ≡ roles.Bare → lets t r (at_named m) ≡ true
bare_lets t r m is = ap (λ q. not (same_address m.address t) || may_follow q r) is ∙ or_true (not (same_address m.address t))

fits_is : (ms : List Named) (m : Named) → fits ms m ≡ list_all (lets m.address m.role) (ats ms)
fits_is [] m = refl
fits_is (e ∷ ms) m = elim (mention_or_bare e.role) [
  | inl mention ↦
      ap (λ b. lets m.address m.role (at_named e) && b) (fits_is ms m)
      ∙ ap (λ b. list_all (lets m.address m.role) (map at_named (cond b (e ∷ filter is_mention ms) (filter is_mention ms)))) (sym mention)
  | inr bare ↦
      ap (λ b. b && fits ms m) (bare_lets m.address m.role e bare)
      ∙ (fits_is ms m ∙ ap (λ r. list_all (lets m.address m.role) (map at_named (cond (is_mentioned r) (e ∷ filter is_mention ms) (filter is_mention ms)))) (sym bare))
]

fits_bare : (ms : List Named) (m : Named) → m.role ≡ roles.Bare → fits ms m ≡ true
fits_bare [] m is = refl
fits_bare (e ∷ ms) m is =
    ap (λ b. b && fits ms m) (ap (λ r. not (same_address e.address m.address) || may_follow e.role r) is
    ∙ (ap (λ b. not (same_address e.address m.address) || b) (follows_bare e.role) ∙ or_true (not (same_address e.address m.address))))
    ∙ fits_bare ms m is

-- by what forbids in what is seen
forbid_if : (r : Role) (b : Bool) (s : Sight) (ss : List Sight) → forbidding r (if b then s ∷ ss else ss) ≡ (if b then forbidding r (s ∷ ss) else forbidding r ss)
forbid_if r true s ss = refl
forbid_if r false s ss = refl

if_lets : (b c rest : Bool) (s : Sight) (x : Option Sight) → ((not b || c) && rest) ≡ true → (rest ≡ true → x ≡ None) → (if b then (if c then x else Some s) else x) ≡ None
if_lets true true rest s x h f = f h
if_lets true false rest s x h f = absurd (let differs : false ≡ true = h in cc)
if_lets false c rest s x h f = f h

if_stops : (b c rest : Bool) (s : Sight) (x : Option Sight) → ((not b || c) && rest) ≡ false → (rest ≡ false → (f : Sight) × (x ≡ Some f))
    → (f : Sight) × ((if b then (if c then x else Some s) else x) ≡ Some f)
if_stops true true rest s x h f = f h
if_stops true false rest s x h f = (s, refl)
if_stops false c rest s x h f = f h

let_none : (t : Address) (r : Role) (ps : List Part) → list_all (lets t r) (part_ats ps) ≡ true → forbidding r (sights t ps) ≡ None
let_none t r [] h = refl
let_none t r (p ∷ ps) h =
    forbid_if r (same_address p.address t) (sight_of p) (sights t ps)
    ∙ if_lets (same_address p.address t) (may_follow p.role r) (list_all (lets t r) (part_ats ps)) (sight_of p) (forbidding r (sights t ps)) h (let_none t r ps)

let_some : (t : Address) (r : Role) (ps : List Part) → list_all (lets t r) (part_ats ps) ≡ false → (f : Sight) × (forbidding r (sights t ps) ≡ Some f)
let_some t r [] h = absurd (let differs : true ≡ false = h in cc)
let_some t r (p ∷ ps) h =
    let got = if_stops (same_address p.address t) (may_follow p.role r) (list_all (lets t r) (part_ats ps)) (sight_of p) (forbidding r (sights t ps)) h (let_some t r ps) in
    (got.0, forbid_if r (same_address p.address t) (sight_of p) (sights t ps) ∙ got.1)

-- a part that stands first
uncons : (a : At) (rest : List At) (ps : List Part) → a ∷ rest ≡ part_ats ps → (p : Part) × (more : List Part) × (ps ≡ p ∷ more) × (a ≡ at_part p) × (rest ≡ part_ats more)
uncons a rest [] h = absurd (let differs : a ∷ rest ≡ [] = h in cc)
uncons a rest (p ∷ more) h = (p, more, refl, cc, cc)

misfit_step : (b : Bool) (x : Option Address) (a : Address) → (if b then x else Some a) ≡ None → (b ≡ true) × (x ≡ None)
misfit_step true x a h = (refl, h)
misfit_step false x a h = absurd (none-some a (sym h))

clash_step : (b : Bool) (t : Address) (p : Part) (pe : List Part) (ss : List Sight) → same_address p.address t ≡ b → (b ≡ true → forbidding p.role (sights t pe) ≡ None)
    → clash_from (sights t (pe ++ p ∷ [])) ss ≡ None → clash_from (sights t pe) (if b then sight_of p ∷ ss else ss) ≡ None
clash_step true t p pe ss is none rest =
    let more : sights t (pe ++ p ∷ []) ≡ sights t pe ++ sight_of p ∷ [] = sights-append t pe (p ∷ []) ∙ ap (λ b. sights t pe ++ (if b then sight_of p ∷ [] else [])) is in
    ap (λ o. first_some (forbidden_by o (sight_of p)) (clash_from (sights t pe ++ sight_of p ∷ []) ss)) (none refl)
    ∙ (ap (λ l. clash_from l ss) (sym more) ∙ rest)
clash_step false t p pe ss is none rest =
    let same : sights t (pe ++ p ∷ []) ≡ sights t pe =
    sights-append t pe (p ∷ []) ∙ (ap (λ b. sights t pe ++ (if b then sight_of p ∷ [] else [])) is ∙ append-nil (sights t pe)) in
    ap (λ l. clash_from l ss) (sym same) ∙ rest

one_more : (e : List Named) (m : Named) (pe : List Part) (p : Part) → is_mentioned m.role ≡ true → at_named m ≡ at_part p → ats e ≡ part_ats pe → ats (e ++ m ∷ []) ≡ part_ats (pe ++ p ∷ [])
one_more e m pe p mention at ee =
    ats-append e (m ∷ [])
    ∙ (ap (λ b. ats e ++ map at_named (cond b (m ∷ []) [])) mention ∙ (ap (λ l. l ++ at_named m ∷ []) ee ∙ (ap (λ a. part_ats pe ++ a ∷ []) at ∙ sym (map-append at_part pe (p ∷ [])))))

none_more : (e : List Named) (m : Named) → m.role ≡ roles.Bare → ats (e ++ m ∷ []) ≡ ats e
none_more e m bare =
    ats-append e (m ∷ []) ∙ (ap (λ r. ats e ++ map at_named (cond (is_mentioned r) (m ∷ []) [])) bare ∙ append-nil (ats e))

clash_none : (t : Address) (e ms : List Named) (pe ps : List Part) → ats e ≡ part_ats pe → ats ms ≡ part_ats ps → misfit e ms ≡ None → clash_from (sights t pe) (sights t ps) ≡ None
clash_none t e [] pe [] ee me h = refl
clash_none t e [] pe (p ∷ ps) ee me h = absurd (let differs : [] ≡ at_part p ∷ part_ats ps = me in cc)
clash_none t e (m ∷ ms) pe ps ee me h = elim (mention_or_bare m.role) [
  | inl mention ↦
      let step = misfit_step (fits e m) (misfit (e ++ m ∷ []) ms) m.address h in
      let first = uncons (at_named m) (ats ms) ps (ap (λ b. map at_named (cond b (m ∷ filter is_mention ms) (filter is_mention ms))) (sym mention) ∙ me) in
      let p = first.0 in
      let rest : clash_from (sights t (pe ++ p ∷ [])) (sights t first.1) ≡ None =
      clash_none t (e ++ m ∷ []) ms (pe ++ p ∷ []) first.1 (one_more e m pe p mention first.3 ee) first.4 step.1 in
      let let_all : list_all (lets m.address m.role) (part_ats pe) ≡ true = ap (list_all (lets m.address m.role)) (sym ee) ∙ (sym (fits_is e m) ∙ step.0) in
      let none : same_address p.address t ≡ true → forbidding p.role (sights t pe) ≡ None =
      λ same.
      let at_t : m.address ≡ t = ap (λ (a : At). a.address) first.3 ∙ (same_address-decides p.address t).0 same in
      ap (λ r. forbidding r (sights t pe)) (sym (ap (λ (a : At). a.role) first.3)) ∙ (ap (λ q. forbidding m.role (sights q pe)) (sym at_t) ∙ let_none m.address m.role pe let_all) in
      subst (λ l. clash_from (sights t pe) (sights t l) ≡ None) (sym first.2) (clash_step (same_address p.address t) t p pe (sights t first.1) refl none rest)
  | inr bare ↦
      let step = misfit_step (fits e m) (misfit (e ++ m ∷ []) ms) m.address h in
      clash_none t (e ++ m ∷ []) ms pe ps (none_more e m bare ∙ ee) (ap (λ r. map at_named (cond (is_mentioned r) (m ∷ filter is_mention ms) (filter is_mention ms))) (sym bare) ∙ me) step.1
]

-- mentions that keep the rules have no clash
pub kept_has_none : (t : Address) (ms : List Named) (ps : List Part) → ats ms ≡ part_ats ps → KeepsRules ms → first_clash (sights t ps) ≡ None
kept_has_none t ms ps is keeps = clash_none t [] ms [] ps refl is ((no_misfit ms).1 keeps)

misfit_snoc : (e ms : List Named) (m : Named) → misfit e ms ≡ None → fits (e ++ ms) m ≡ true → misfit e (ms ++ m ∷ []) ≡ None
misfit_snoc e [] m none fit = ap (λ b. if b then None else Some m.address) (subst (λ l. fits l m ≡ true) (append-nil e) fit)
misfit_snoc e (q ∷ ms) m none fit =
    let step = misfit_step (fits e q) (misfit (e ++ q ∷ []) ms) q.address none in
    ap (λ b. if b then misfit (e ++ q ∷ []) (ms ++ m ∷ []) else Some q.address) step.0
    ∙ misfit_snoc (e ++ q ∷ []) ms m step.1 (subst (λ l. fits l m ≡ true) (sym (append_assoc e (q ∷ []) ms)) fit)

-- one more that does not is forbidden, and is a mention
module _ (ms : List Named) (m : Named) (keeps : KeepsRules ms) (offends : ¬ KeepsRules (ms ++ m ∷ [])) where
  misfits : fits ms m ≡ false
  misfits = false_of (fits ms m) (λ fit. offends ((no_misfit (ms ++ m ∷ [])).0 (misfit_snoc [] ms m ((no_misfit ms).1 keeps) fit)))
    where
      false_of : (b : Bool) → ¬ (b ≡ true) → b ≡ false
      false_of true other = absurd (other refl)
      false_of false other = refl

  pub offends_in : (ps : List Part) → ats ms ≡ part_ats ps → (f : Sight) × (forbidding m.role (sights m.address ps) ≡ Some f)
  offends_in ps is = let_some m.address m.role ps (ap (list_all (lets m.address m.role)) (sym is) ∙ (sym (fits_is ms m) ∙ misfits))

  pub is_a_mention : is_mentioned m.role ≡ true
  is_a_mention = elim (mention_or_bare m.role) [ inl mention ↦ mention | inr bare ↦ absurd (let a = fits_bare ms m bare in let b = misfits in let differs : true ≡ false = sym a ∙ b in cc) ]

-- the part that stands for it
pub record Split (rest : List At) (a : At) (ps : List Part) (x : Piece) : Type 0 where
  pub before : List Part
  pub part : Part
  pub behind : List Part
  pub is : ps ≡ before ++ part ∷ behind
  pub front : part_ats before ≡ rest
  pub here : at_part part ≡ a
  pub piece : part.piece ≡ x

split : (front : List At) (a : At) (back : List At) (ps : List Part) (x : Piece) → part_ats ps ≡ front ++ a ∷ back → slice_get (pieces ps) (length front) ≡ Some x → Split front a ps x
split [] a back [] x h is = absurd (none-some x is)
split [] a back (p ∷ ps) x h is = record { before = []; part = p; behind = ps; is = refl; front = refl; here = cc; piece = cc }
split (b ∷ front) a back [] x h is = absurd (none-some x is)
split (b ∷ front) a back (p ∷ ps) x h is =
    let first : at_part p ≡ b = cc in
    let rest : part_ats ps ≡ front ++ a ∷ back = cc in
    let got = split front a back ps x rest is in
    record { before = p ∷ got.before; part = got.part; behind = got.behind; is = ap (λ l. p ∷ l) got.is; front = ap (λ l. at_part p ∷ l) got.front ∙ ap (λ c. c ∷ front) first; here = got.here; piece = got.piece }

-- a clash that is there already is the first
clash_on : (e xs ys : List Sight) → clash_from e xs ≡ None → clash_from e (xs ++ ys) ≡ clash_from (e ++ xs) ys
clash_on e [] ys none = ap (λ l. clash_from l ys) (sym (append-nil e))
clash_on e (s ∷ xs) ys none =
    let parts = first_none (forbidden_by (forbidding s.role e) s) (clash_from (e ++ s ∷ []) xs) none in
    ap (λ o. first_some o (clash_from (e ++ s ∷ []) (xs ++ ys))) parts.0 ∙ (clash_on (e ++ s ∷ []) xs ys parts.1 ∙ ap (λ l. clash_from l ys) (append_assoc e (s ∷ []) xs))
  where
    first_none : (a b : Option (Sight × Sight)) → first_some a b ≡ None → (a ≡ None) × (b ≡ None)
    first_none None b h = (refl, h)
    first_none (Some x) b h = absurd (none-some x (sym h))

-- lines up to one
pub take_get : (ls : List Line) (n : ℕ) (l : Line) → slice_get ls n ≡ Some l → take (suc n) ls ≡ take n ls ++ l ∷ []
take_get [] n l h = absurd (none-some l h)
take_get (k ∷ ls) zero l h = let same : k ≡ l = cc in ap (λ m. m ∷ []) same
take_get (k ∷ ls) (suc n) l h = ap (λ r. k ∷ r) (take_get ls n l h)

lines_split : (ls : List Line) (n : ℕ) (l : Line) → slice_get ls n ≡ Some l → ls ≡ take n ls ++ l ∷ drop (suc n) ls
lines_split [] n l h = absurd (none-some l h)
lines_split (k ∷ ls) zero l h = let same : k ≡ l = cc in ap (λ m. m ∷ ls) same
lines_split (k ∷ ls) (suc n) l h = ap (λ r. k ∷ r) (lines_split ls n l h)

whole : (front : List Line) (l : Line) (back lines : List Line) (before : List Part) (p : Part) (behind : List Part) → lines ≡ front ++ l ∷ back → parts_by (named front) l.expr ≡ before ++ p ∷ behind
    → all_parts lines ≡ (all_parts front ++ before) ++ p ∷ (behind ++ parts_from (named_from (root ∷ []) 0 (front ++ l ∷ [])) (0 + length (front ++ l ∷ [])) back)
whole front l back lines before p behind is cut =
    let rest = parts_from (named_from (root ∷ []) 0 (front ++ l ∷ [])) (0 + length (front ++ l ∷ [])) back in
    ap all_parts (is ∙ sym (append_assoc front (l ∷ []) back))
    ∙ (parts_split (root ∷ []) 0 (front ++ l ∷ []) back
    ∙ (ap (λ a. a ++ rest) (parts_more front l ∙ (ap (λ a. all_parts front ++ a) cut ∙ sym (append_assoc (all_parts front) before (p ∷ behind))))
    ∙ append_assoc (all_parts front ++ before) (p ∷ behind) rest))

-- The first clash at the address is that of the first mention which breaks the rules, where the key part stands that stands for it.
module _ (lines : List Line) (number : ℕ) (at : Address) (bad : IsRedefined lines number at) (l : Line) (here : slice_get lines number ≡ Some l) (x : Piece)
    (stands : slice_get (mention_pieces l.expr) (length (filter is_mention bad.offence.before)) ≡ Some x) where
  front : List Line
  front = take number lines

  pub offence_is_clash : (f s : Sight) × (first_clash (sights at (all_parts lines)) ≡ Some (f, s)) × (s.span.start ≡ x.start)
  offence_is_clash =
      let front = take number lines in
      let earlier = named front in
      let n = 0 + length front in
      let off = bad.offence in
      let m = off.mention in
      let next : number + 1 ≡ suc number = omega arith in
      let new_is : bad.new ≡ named_by earlier n l.expr =
      append_cancel_left earlier bad.new (named_by earlier n l.expr)
      (sym bad.is ∙ (ap (λ k. named (take k lines)) next ∙ (ap named (take_get lines number l here) ∙ named_more (root ∷ []) 0 front l))) in
      let ps = parts_by earlier l.expr in
      let before_ats = ats off.before in
      let line_ats : part_ats ps ≡ ats off.before ++ ats (m ∷ off.behind) =
      sym (line_is earlier n l.expr) ∙ (ap ats (sym new_is ∙ off.is) ∙ ats-append off.before (m ∷ off.behind)) in
      let mention : is_mentioned m.role ≡ true = is_a_mention (earlier ++ off.before) m off.good off.offends in
      let cut : ats (m ∷ off.behind) ≡ at_named m ∷ ats off.behind = ap (λ b. map at_named (cond b (m ∷ filter is_mention off.behind) (filter is_mention off.behind))) mention in
      let count : length (ats off.before) ≡ length (filter is_mention off.before) = length-map (filter is_mention off.before) at_named in
      let piece_there : slice_get (pieces ps) (length (ats off.before)) ≡ Some x =
      ap (slice_get (pieces ps)) count ∙ (ap (λ l. slice_get l (length (filter is_mention off.before))) (line_pieces earlier l.expr) ∙ stands) in
      let got = split (ats off.before) (at_named m) (ats off.behind) ps x (line_ats ∙ ap (λ l. ats off.before ++ l) cut) piece_there in
      let p = got.part in
      let seen_before = all_parts front ++ got.before in
      let ms = earlier ++ off.before in
      let ats_before : ats ms ≡ part_ats seen_before =
      ats-append earlier off.before
      ∙ (ap (λ a. a ++ ats off.before) (all_are front) ∙ (ap (λ a. part_ats (all_parts front) ++ a) (sym got.front) ∙ sym (map-append at_part (all_parts front) got.before))) in
      let at_m : at ≡ m.address = off.address in
      let forbids = offends_in ms m off.good off.offends seen_before ats_before in
      let none : first_clash (sights at seen_before) ≡ None = kept_has_none at ms seen_before ats_before off.good in
      let role_is : p.role ≡ m.role = ap (λ (a : At). a.role) got.here in
      let p_at : p.address ≡ at = ap (λ (a : At). a.address) got.here ∙ sym at_m in
      let found : forbidding p.role (sights at seen_before) ≡ Some forbids.0 =
      ap (λ r. forbidding r (sights at seen_before)) role_is ∙ (ap (λ q. forbidding m.role (sights q seen_before)) at_m ∙ forbids.1) in
      let rest = got.behind ++ parts_from (named_from (root ∷ []) 0 (front ++ l ∷ [])) (0 + length (front ++ l ∷ [])) (drop (suc number) lines) in
      let all_is : all_parts lines ≡ seen_before ++ p ∷ rest = whole front l (drop (suc number) lines) lines got.before p got.behind (lines_split lines number l here) got.is in
      let see : sights at (p ∷ rest) ≡ sight_of p ∷ sights at rest =
      ap (λ b. if b then sight_of p ∷ sights at rest else sights at rest) ((same_address-decides p.address at).1 p_at) in (
        forbids.0,
        sight_of p,
        ap (λ l. first_clash (sights at l)) all_is
            ∙ (ap first_clash (sights-append at seen_before (p ∷ rest))
            ∙ (clash_on [] (sights at seen_before) (sights at (p ∷ rest)) none
            ∙ (ap (clash_from (sights at seen_before)) see
            ∙ ap (λ o. first_some (forbidden_by o (sight_of p)) (clash_from (sights at seen_before ++ sight_of p ∷ []) (sights at rest))) found))),
        ap (λ (y : Piece). y.start) got.piece,
      )
