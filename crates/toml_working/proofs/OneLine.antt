-- What an `insert` and a `remove` make of lines is one, since one line holds what they name.
use Rattle.std.proofs.Common.{◌≡◌, ◌∙◌, ℕ, Bool, true, false, ◌&&◌, ◌||◌, List, [], ◌∷◌, ◌++◌, map, All, Option, Some, None, refl, ap, ap₂, sym, subst, append_assoc}
use Rattle.std.proofs.lemmas.Bool.{and_parts, false≢true}
use Rattle.std.proofs.lemmas.List.{append_cancel_left}
use Rattle.std.proofs.lemmas.Option.{same_Some}
use Rattle.std.specs.List.{list_any}
use Rattle.toml_names.specs.model.Addresses.{Address, same_step}
use Rattle.toml_names.proofs.Proved.{same_step-equal, same_step-self}
use Rattle.toml_layout.specs.Apart.{HasKeysApart}
use Rattle.toml_layout.specs.Beginnings.{begins}
use Rattle.toml_layout.specs.Holding.{ChangesHolder, HolderChange, PutsHeld, TakesHeld}
use Rattle.toml_layout.specs.OpenOutlines.{value}
use Rattle.toml_layout.specs.Outlines as outline
use Rattle.toml_layout.specs.Outlines.{AssignOutline, ExprOutline, ValueOutline}
use Rattle.toml_layout.specs.SetOutlines.{has_outline, set_outline}
use Rattle.toml_layout.specs.SettingIn.{SetsIn}
use Rattle.toml_layout.proofs.Proved.{put_is_one, set_aside, set_is_made, taken_is_one}
use Rattle.toml_working.specs.HeldLines.{PutLinesAreOne, SetsEach, TakenLinesAreOne}
use Rattle.toml_working.specs.Standing.{AreOrdered, IsApart, StandAlone, Standing, has, holds, leads_to, outline_has, set_outline_of, set_standing, with_value_outline}
use Rattle.toml_working.proofs.Pairwise.{pairs_of_all}
use Rattle.toml_working.proofs.SetAway.{one_is_apart, one_is_set, others_before}

-- ---- lists

same_head : {A : Type 0} (x y : A) (xs ys : List A) → ◌≡◌ {A = List A} (x ∷ xs) (y ∷ ys) → x ≡ y
same_head x y xs ys e = cc

same_tail : {A : Type 0} (x y : A) (xs ys : List A) → ◌≡◌ {A = List A} (x ∷ xs) (y ∷ ys) → xs ≡ ys
same_tail x y xs ys e = cc

begins_front : (a b : Address) → begins a (a ++ b) ≡ true
begins_front [] b = refl
begins_front (s ∷ a) b = ap₂ (λ c d. c && d) (same_step-self s) (begins_front a b)

begins_parts : (a p : Address) → begins a p ≡ true → (r : Address) × (p ≡ a ++ r)
begins_parts [] p h = (p, refl)
begins_parts (s ∷ a) [] h = absurd (false≢true h)
begins_parts (s ∷ a) (t ∷ p) h =
    let (here, behind) = and_parts (same_step s t) (begins a p) h in
    let (r, is) = begins_parts a p behind in
    (r, ap₂ (λ x xs. x ∷ xs) (sym (same_step-equal s t here)) is)

-- ---- the line that has a value at the address

the_line : (p : Address) (ss : List Standing) → list_any (has p) ss ≡ true
    → (front : List Standing) × (s : Standing) × (back : List Standing) × (ss ≡ front ++ s ∷ back) × (has p s ≡ true)
the_line p [] some = absurd (false≢true some)
the_line p (s ∷ ss) some = by (has p s) refl (the_line p ss) some
  where
    by : (b : Bool) → has p s ≡ b
        → (list_any (has p) ss ≡ true → (front : List Standing) × (t : Standing) × (back : List Standing) × (ss ≡ front ++ t ∷ back) × (has p t ≡ true))
        → (b || list_any (has p) ss) ≡ true
        → (front : List Standing) × (t : Standing) × (back : List Standing) × (s ∷ ss ≡ front ++ t ∷ back) × (has p t ≡ true)
    by true is later h = ([], s, ss, refl, is)
    by false is later h = let (front, t, back, all, here) = later h in (s ∷ front, t, back, ap (λ l. s ∷ l) all, here)

-- it has a key and a value, and the address of that is a beginning
has_value : (p : Address) (base : Option ℕ) (own : Option Address) (e : ExprOutline) → outline_has p base own e ≡ true
    → (n : ℕ) × (a : Address) × (k : AssignOutline) × (v : ValueOutline) × (base ≡ Some n) × (own ≡ Some a) × (e ≡ outline.Pair k v) × (has_outline p a v ≡ true)
has_value p None own e h = absurd (false≢true h)
has_value p (Some n) None e h = absurd (false≢true h)
has_value p (Some n) (Some a) outline.Nothing h = absurd (false≢true h)
has_value p (Some n) (Some a) (outline.Pair k v) h = (n, a, k, v, refl, refl, refl, h)
has_value p (Some n) (Some a) (outline.Header opening before first rest after closing) h = absurd (false≢true h)

has_begins : (p a : Address) (v : ValueOutline) → has_outline p a v ≡ true → begins a p ≡ true
has_begins p a v h = by (begins a p) refl
  where
    by : (b : Bool) → begins a p ≡ b → b ≡ true
    by true is = refl
    by false is = absurd (false≢true (sym (set_aside p v a v is).1 ∙ h))

-- the line with another value
abbrev put_in : Standing → AssignOutline → ValueOutline → Standing
put_in s k w = record s { outline = record s.outline { expr = outline.Pair k w } }

set_there : (p : Address) (new : ValueOutline) (s : Standing) (n : ℕ) (a : Address) (k : AssignOutline) (v : ValueOutline) → s.base ≡ Some n → s.address ≡ Some a
    → s.outline.expr ≡ outline.Pair k v → set_standing p new s ≡ put_in s k (set_outline p new a v)
set_there p new s n a k v base own expr =
    ap₂ (λ b o. record s { outline = set_outline_of p new b o s.outline }) base own
    ∙ ap (λ e. record s { outline = record s.outline { expr = with_value_outline (set_outline p new a) e } }) expr

pair_value : (k l : AssignOutline) (v w : ValueOutline) → outline.Pair k v ≡ outline.Pair l w → v ≡ w
pair_value k l v w same = cc

pair_key : (k l : AssignOutline) (v w : ValueOutline) → outline.Pair k v ≡ outline.Pair l w → k ≡ l
pair_key k l v w same = cc

-- ---- what is held on lines is held in the value of one

pub record HeldInLine (makes : HolderChange) (p : Address) (ss now : List Standing) : Type 0 where
  pub front : List Standing
  pub line : Standing
  pub back : List Standing
  pub are : ss ≡ front ++ line ∷ back
  pub here : holds p line ≡ true
  pub at : Address
  pub address_is : line.address ≡ Some at
  pub key : AssignOutline
  pub old : ValueOutline
  pub expr_is : line.outline.expr ≡ outline.Pair key old
  pub apart : HasKeysApart old
  pub rest : Address
  pub way : p ≡ at ++ rest
  pub new : ValueOutline
  pub now_is : now ≡ front ++ put_in line key new ∷ back
  pub made : ChangesHolder SetsIn makes rest old new

held_in_line : (makes : HolderChange) (p : Address) (ss now : List Standing) → AreOrdered ss → ChangesHolder SetsEach makes p ss now → HeldInLine makes p ss now
held_in_line makes p ss now ordered h =
    let to = h.to in
    let x = value h.was in
    let y = value h.other in
    let (front, s, back, all, there) = the_line to ss (sym h.stood.1) in
    let (n, a, k, v, base, own, expr, some) = has_value to s.base s.address s.outline.expr there in
    let first = has_begins to a v some in
    let (r, to_is) = begins_parts a to first in
    let way : p ≡ a ++ (r ++ h.rest) = h.split ∙ ap (λ t. t ++ h.rest) to_is ∙ append_assoc a r h.rest in
    let leads : (q : Address) → begins a q ≡ true → holds q s ≡ true = λ q b. ap₂ (λ m o. leads_to q m o) base own ∙ b in
    let alone = subst (λ xs. StandAlone xs) all ordered.alone in
    let apart : HasKeysApart v =
    subst IsApart expr (one_is_apart front s back (subst (λ xs. All (λ (t : Standing). IsApart t.outline.expr) xs) all ordered.apart)) in
    let set_on : (z : ValueOutline) → map (set_standing to z) ss ≡ front ++ put_in s k (set_outline to z a v) ∷ back =
    λ z. ap (map (set_standing to z)) all ∙ (one_is_set to z front s back (leads to first) alone).0 ∙ ap (λ t. front ++ t ∷ back) (set_there to z s n a k v base own expr) in
    let lines : s ∷ back ≡ put_in s k (set_outline to x a v) ∷ back =
    append_cancel_left front (s ∷ back) (put_in s k (set_outline to x a v) ∷ back) (sym all ∙ h.stood.0 ∙ set_on x) in
    let kept : v ≡ set_outline to x a v =
    pair_value k k v (set_outline to x a v)
    (sym expr ∙ ap (λ (t : Standing). t.outline.expr) (same_head s (put_in s k (set_outline to x a v)) back back lines)) in
    let (w, done, sets) = set_is_made r x v in
    let (z, told, puts) = set_is_made r y v in
    let same : w ≡ v = (sets apart a).0 ∙ ap (λ q. set_outline q x a v) (sym to_is) ∙ sym kept in
    let made : done ≡ true = (sets apart a).1 ∙ ap (λ q. has_outline q a v) (sym to_is) ∙ some in
    let also : told ≡ true = (puts apart a).1 ∙ ap (λ q. has_outline q a v) (sym to_is) ∙ some in
    let other : set_outline to y a v ≡ z = ap (λ q. set_outline q y a v) to_is ∙ sym (puts apart a).0 in
    record {
      front = front;
      line = s;
      back = back;
      are = all;
      here = leads p (subst (λ q. begins a q ≡ true) (sym way) (begins_front a (r ++ h.rest)));
      at = a;
      address_is = own;
      key = k;
      old = v;
      expr_is = expr;
      apart = apart;
      rest = r ++ h.rest;
      way = way;
      new = z;
      now_is = h.stands.0 ∙ set_on y ∙ ap (λ u. front ++ put_in s k u ∷ back) other;
      made = record {
        to = r;
        rest = h.rest;
        split = refl;
        was = h.was;
        other = h.other;
        stood = subst (λ d. SetsIn r x v v d) made (subst (λ u. SetsIn r x v u done) same sets);
        stands = subst (λ d. SetsIn r y v z d) also puts;
        made = h.made;
      };
    }

-- ---- it is one line

not_held : (p : Address) (s : Standing) (ss : List Standing) → holds p s ≡ true → list_any (holds p) (s ∷ ss) ≡ false → ⊥
not_held p s ss here none = false≢true (sym none ∙ ap (λ b. b || list_any (holds p) ss) here)

one_line : (p : Address) (f g : List Standing) (s t : Standing) (b c : List Standing) → f ++ s ∷ b ≡ g ++ t ∷ c → holds p s ≡ true → holds p t ≡ true
    → list_any (holds p) f ≡ false → list_any (holds p) g ≡ false → (f ≡ g) × (s ≡ t) × (b ≡ c)
one_line p [] [] s t b c same here there none never = (refl, same_head s t b c same, same_tail s t b c same)
one_line p [] (u ∷ g) s t b c same here there none never =
    absurd (not_held p u g (ap (holds p) (sym (same_head s u b (g ++ t ∷ c) same)) ∙ here) never)
one_line p (u ∷ f) [] s t b c same here there none never =
    absurd (not_held p u f (ap (holds p) (same_head u t (f ++ s ∷ b) c same) ∙ there) none)
one_line p (u ∷ f) (w ∷ g) s t b c same here there none never =
    let rest = one_line p f g s t b c (same_tail u w (f ++ s ∷ b) (g ++ t ∷ c) same) here there (later (holds p u) none) (later (holds p w) never) in
    (ap₂ (λ x xs. x ∷ xs) (same_head u w (f ++ s ∷ b) (g ++ t ∷ c) same) rest.0, rest.1, rest.2)
  where
    later : (h : Bool) {d : Bool} → (h || d) ≡ false → d ≡ false
    later true off = absurd (false≢true (sym off))
    later false off = off

-- what of one value makes one value makes of these lines one list of lines
module _ (makes twin : HolderChange)
    (one : (steps : Address) (old now new : ValueOutline) → HasKeysApart old → ChangesHolder SetsIn makes steps old now → ChangesHolder SetsIn twin steps old new → now ≡ new) where
  in_one_line : (p : Address) (ss now new : List Standing) → StandAlone ss → HeldInLine makes p ss now → HeldInLine twin p ss new → now ≡ new
  in_one_line p ss now new alone h g =
      let first = others_before p h.front h.line h.back h.here (pairs_of_all _ (h.front ++ h.line ∷ h.back) (subst (λ xs. StandAlone xs) h.are alone)) in
      let other = others_before p g.front g.line g.back g.here (pairs_of_all _ (g.front ++ g.line ∷ g.back) (subst (λ xs. StandAlone xs) g.are alone)) in
      let (fronts, lines, backs) = one_line p h.front g.front h.line g.line h.back g.back (sym h.are ∙ g.are) h.here g.here first.0 other.0 in
      let pairs : outline.Pair h.key h.old ≡ outline.Pair g.key g.old = sym h.expr_is ∙ ap (λ (s : Standing). s.outline.expr) lines ∙ g.expr_is in
      let keys = pair_key h.key g.key h.old g.old pairs in
      let olds = pair_value h.key g.key h.old g.old pairs in
      let at : h.at ≡ g.at = same_Some h.at g.at (sym h.address_is ∙ ap (λ (s : Standing). s.address) lines ∙ g.address_is) in
      let rests : h.rest ≡ g.rest = append_cancel_left h.at h.rest g.rest (sym h.way ∙ g.way ∙ ap (λ a. a ++ g.rest) (sym at)) in
      let values : h.new ≡ g.new = one h.rest h.old h.new g.new h.apart h.made
      (subst (λ r. ChangesHolder SetsIn twin r h.old g.new) (sym rests) (subst (λ o. ChangesHolder SetsIn twin g.rest o g.new) (sym olds) g.made)) in
      let puts : put_in h.line h.key h.new ≡ put_in g.line g.key g.new = ap₂ (λ s k. put_in s k h.new) lines keys ∙ ap (put_in g.line g.key) values in
      h.now_is ∙ ap₂ (λ f s. f ++ s ∷ h.back) fronts puts ∙ ap (λ b. g.front ++ put_in g.line g.key g.new ∷ b) backs ∙ sym g.now_is

  lines_are_one : (p : Address) (ss now new : List Standing) → AreOrdered ss → ChangesHolder SetsEach makes p ss now → ChangesHolder SetsEach twin p ss new → now ≡ new
  lines_are_one p ss now new ordered h g =
      in_one_line p ss now new ordered.alone (held_in_line makes p ss now ordered h) (held_in_line twin p ss new ordered g)

pub taken_lines_are_one : TakenLinesAreOne
taken_lines_are_one layout p ss now new ordered h g =
    lines_are_one (TakesHeld layout) (TakesHeld layout) (taken_is_one layout) p ss now new ordered h g

pub put_lines_are_one : PutLinesAreOne
put_lines_are_one layout spelled twin p put same ss now new ordered texts alike h g =
    lines_are_one (PutsHeld layout spelled put) (PutsHeld layout twin same)
    (λ steps old w z apart here there. put_is_one layout spelled twin steps put same old w z apart texts alike here there) p ss now new ordered h g
