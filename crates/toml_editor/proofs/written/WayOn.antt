-- A way of one edit, and a way of others that goes on from there: together they are a way of all.
use Rattle.std.proofs.Common.{◌≡◌, ◌⊎◌, inl, inr, ◌≤◌, ◌+◌, ℕ, Bool, true, false, cond, ◌&&◌, Option, None, option_map, option_and_then, List, [], ◌∷◌, map, length, refl, sym, ap, ap₂, ◌∙◌, subst, true≢false, arith}
use Rattle.std.specs.Str.{bytes_eq}
use Rattle.std.proofs.Math.Bool.{and-false}
use Rattle.std.proofs.lemmas.Bool.{and_parts}
use Rattle.toml_edits.specs.Edits.{Change}
use Rattle.toml_edits.specs.Lists.{carried}
use Rattle.toml_units.specs.declared.unit.UnitKind.TheVariants as kinds
use Rattle.toml_units.specs.Units.{TextUnit}
use Rattle.toml_checker.specs.declared.tables.Part.TheVariants as parts
use Rattle.toml_checker.specs.CarriedTo.{IsCarriedTo, At}
use Rattle.toml_checker.specs.Comments.{is_comment, texts, times, IsWritten}
use Rattle.toml_checker.specs.Owed.{IsOwed}
use Rattle.toml_checker.specs.Plain.{Site, site, next_line, stands}
use Rattle.toml_units.specs.Bares.{bare_unit}
use Rattle.toml_editor.proofs.written.Way.{Step, both, old, new, olds, news, one_line, is_here}
use Rattle.toml_editor.proofs.written.WayComments.{added, comment_more, comment_on, comments, times_cons}
use Rattle.toml_editor.proofs.written.WayFits.{Matches, IsAsked, Fits}
use Rattle.toml_editor.proofs.written.WayKeeps.{moved_site, Ends, StaysIf, ComesOwed, KeepsIf, kept_on, moved_on, line_moved_on, line_is, lost_on, one_carried}
use Rattle.toml_editor.proofs.written.WayHome.{IsOwedHeader, header_later, header_on, came_owed}
use Rattle.toml_editor.proofs.written.WayOwed.{written_on, at_map, OwedOn, line_owed}

-- each line that comes is owed, where not always a last line of no bytes stays the last
abbrev pub IsSure : Type 0 → Change → List Step → Type 0
IsSure Firm c [] = Unit {0}
IsSure Firm c (both u w ∷ s) = IsSure Firm c s
IsSure Firm c (old u ∷ s) = IsSure Firm c s
IsSure Firm c (new w ∷ s) = (Firm ⊎ (w.kind ≡ kinds.Line → At w.address (IsOwed (c ∷ [])))) × IsSure Firm c s

-- `Former` and `Later` tell when a last line of no bytes stays the last under the first edit, and under the others; `Firm` when under all.
module _ (Firm Former Later : Type 0) (former : Firm → Former) (later : Firm → Later) (c : Change) (cs : List Change) (ts : List (List ℕ))
    (more : List (List (List ℕ))) (before between after : List (List ℕ)) where
  abbrev First : Option Site → ℕ → ℕ → TextUnit → TextUnit → Type 0
  First = Matches (c ∷ []) (ts ∷ []) before between

  abbrev Then : Option Site → ℕ → ℕ → TextUnit → TextUnit → Type 0
  Then = Matches cs more between after

  abbrev FirstStays : Option Site → Option Site → ℕ → ℕ → TextUnit → TextUnit → Type 0
  FirstStays = StaysIf Former (c ∷ []) before between

  abbrev ThenStays : Option Site → Option Site → ℕ → ℕ → TextUnit → TextUnit → Type 0
  ThenStays = StaysIf Later cs between after

  -- ---- where the first way ends the second begins, but for places

  module _ (line next : Option Site) (b d : ℕ) (w x v : TextUnit) (same : bare_unit w ≡ bare_unit x) where
    kind_is : w.kind ≡ x.kind
    kind_is = ap (λ (y : TextUnit). y.kind) same

    here_is : is_here cs line w ≡ is_here cs line x
    here_is = ap (λ (y : TextUnit). is_here cs line y) same

    bared_match : Then line b d x v → Then line b d w v
    bared_match m = record {
      kind = m.kind ∙ sym kind_is;
      kept = λ h.
          let p = m.kept (sym here_is ∙ h) in
          record {
            text = p.text ∙ sym (ap (λ (y : TextUnit). y.piece.text) same);
            address = subst (λ o. IsCarriedTo cs o v.address) (sym (ap (λ (y : TextUnit). y.address) same)) p.address;
            newline = λ is. p.newline (sym kind_is ∙ is);
          };
      lost = λ h. m.lost (sym here_is ∙ h);
    }

    bared_stays : ThenStays line next b d x v → ThenStays line next b d w v
    bared_stays k = record {
      goes = k.goes ∙ ap (λ (y : TextUnit). moved_site cs (site y)) (sym same);
      home = λ is. k.home (ap is_comment (sym kind_is) ∙ is);
      ends = λ is. k.ends (sym kind_is ∙ is);
      empty = λ firm is here none. k.empty firm (sym kind_is ∙ is) (sym here_is ∙ here) (ap (λ (y : TextUnit). y.piece.text) (sym same) ∙ none);
      header = λ is none gone. k.header (sym kind_is ∙ is) (ap (λ (y : TextUnit). y.base) (sym same) ∙ none) (sym here_is ∙ gone);
    }

  -- ---- two units that go together, and on together

  module _ (line mid next : Option Site) (a b d : ℕ) (u w v : TextUnit) (m : First line a b u w) (k : FirstStays line mid a b u w)
      (n : Then mid b d w v) (l : ThenStays mid next b d w v) where
    all : is_here (c ∷ cs) line u ≡ (is_here (c ∷ []) line u && is_here cs mid w)
    all = kept_on c cs line mid u w k.goes k.home

    kept_first : is_here (c ∷ cs) line u ≡ true → is_here (c ∷ []) line u ≡ true
    kept_first h = (and_parts (is_here (c ∷ []) line u) (is_here cs mid w) (sym all ∙ h)).0

    kept_then : is_here (c ∷ cs) line u ≡ true → is_here cs mid w ≡ true
    kept_then h = (and_parts (is_here (c ∷ []) line u) (is_here cs mid w) (sym all ∙ h)).1

    base_is : w.base ≡ u.base
    base_is = ap (λ (s : Site). s.base) k.goes

    -- the line goes by the first edit, or by the others
    on_line : w.kind ≡ kinds.Line → is_here (c ∷ cs) line u ≡ false → OwedOn c cs u.base v.address
    on_line is gone = by (is_here (c ∷ []) line u) refl (is_here cs mid w) refl
      where
        by : (x : Bool) → is_here (c ∷ []) line u ≡ x → (y : Bool) → is_here cs mid w ≡ y → OwedOn c cs u.base v.address
        by x first false then = record {
          owed = at_map (λ e o. inr o) v.address ((n.lost then).0 (n.kind ∙ is));
          header = λ none. at_map (λ e o. inr o) v.address (l.header is (base_is ∙ none) then);
        }
        by true first true then = absurd (true≢false (ap₂ (λ x y. x && y) (sym first) (sym then) ∙ sym all ∙ gone))
        by false first true then =
            subst (λ o. OwedOn c cs o v.address) base_is
            (line_owed c cs w.base w.address v.address (sym (line_is cs mid w is) ∙ then) (n.kept then).address ((m.lost first).0 is)
            (λ none. k.header (sym m.kind ∙ is) (sym base_is ∙ none) first))

    no_comment : is_here (c ∷ cs) line u ≡ false → is_comment v.kind ≡ false
    no_comment gone = by (is_here (c ∷ []) line u) refl (is_here cs mid w) refl
      where
        by : (x : Bool) → is_here (c ∷ []) line u ≡ x → (y : Bool) → is_here cs mid w ≡ y → is_comment v.kind ≡ false
        by x first false then = (n.lost then).1
        by true first true then = absurd (true≢false (ap₂ (λ x y. x && y) (sym first) (sym then) ∙ sym all ∙ gone))
        by false first true then = ap is_comment n.kind ∙ (m.lost first).1

    line_ends : u.kind ≡ kinds.Line → Ends (c ∷ cs) before after a d
    line_ends is =
        let e = k.ends is in
        let f = l.ends (m.kind ∙ is) in
        record {
          newline = elim e.newline [
            | inr last ↦ inr last
            | inl one ↦ elim f.newline [ inl two ↦ inl (one ∙ two) | inr last ↦ inr (e.last last) ]
          ];
          last = λ h. e.last (f.last h);
        }

    both_match : Matches (c ∷ cs) (ts ∷ more) before after line a d u v
    both_match = record {
      kind = n.kind ∙ m.kind;
      kept = λ h.
          let p = m.kept (kept_first h) in
          let q = n.kept (kept_then h) in
          record {
            text = q.text ∙ p.text;
            address = one_carried c cs u.address w.address v.address p.address q.address;
            newline = λ is. elim (line_ends is).newline [ inl one ↦ inl one | inr last ↦ inr (inl last) ];
          };
      lost = λ h. ((λ is. (on_line (sym n.kind ∙ is) h).owed), no_comment h);
    }

    both_stay : StaysIf Firm (c ∷ cs) before after line next a d u v
    both_stay = record {
      goes = l.goes ∙ ap (moved_site cs) k.goes ∙ moved_on c cs (site u);
      home = λ is. l.home (ap is_comment m.kind ∙ is) ∙ ap (option_map (moved_site cs)) (k.home is) ∙ line_moved_on c cs line;
      ends = line_ends;
      empty = λ firm is here none last.
          l.empty (later firm) (m.kind ∙ is) (kept_then here) ((m.kept (kept_first here)).text ∙ none) (k.empty (former firm) is (kept_first here) none last);
      header = λ is none gone. (on_line (m.kind ∙ is) gone).header none;
    }

  -- ---- a unit that comes, and goes on

  module _ (mid next : Option Site) (b d : ℕ) (w v : TextUnit) (m : IsAsked (c ∷ []) (ts ∷ []) before between b w)
      (k : ComesOwed (c ∷ []) before between w) (sure : Later ⊎ (w.kind ≡ kinds.Line → At w.address (IsOwed (c ∷ [])))) (n : Then mid b d w v)
      (l : ThenStays mid next b d w v) where
    new_line : v.kind ≡ kinds.Line → At v.address (IsOwed (c ∷ cs)) ⊎ ((d + 1 ≡ length after) × (v.piece.text ≡ []) × ¬ (c ∷ cs ≡ []))
    new_line is = by (is_here cs mid w) refl
      where
        line : w.kind ≡ kinds.Line
        line = sym n.kind ∙ is

        goes_owed : is_here cs mid w ≡ true → At w.address (IsOwed (c ∷ [])) → At v.address (IsOwed (c ∷ cs))
        goes_owed then owed =
            came_owed c cs w.base w.address v.address (sym (line_is cs mid w line) ∙ then) (n.kept then).address owed
            (λ none. elim (k line none) [ inl blank ↦ absurd (subst (λ o. At o (IsOwed (c ∷ []))) blank owed) | inr header ↦ header ])

        by : (y : Bool) → is_here cs mid w ≡ y → At v.address (IsOwed (c ∷ cs))
            ⊎ ((d + 1 ≡ length after) × (v.piece.text ≡ []) × ¬ (c ∷ cs ≡ []))
        by false then = inl (at_map (λ e o. inr o) v.address ((n.lost then).0 is))
        by true then = elim (m.line line) [
          | inr last ↦ elim sure [
            | inl firm ↦ inr (l.empty firm line then last.1 last.0, (n.kept then).text ∙ last.1, (λ none. cc))
            | inr owed ↦ inl (goes_owed then (owed line))
          ]
          | inl owed ↦ inl (goes_owed then owed)
        ]

    new_asked : IsAsked (c ∷ cs) (ts ∷ more) before after d v
    new_asked = record { line = new_line; comment = λ is. by (is_here cs mid w) refl is }
      where
        by : (y : Bool) → is_here cs mid w ≡ y → is_comment v.kind ≡ true → (v.kind ≡ kinds.InnerComment) × IsWritten (c ∷ cs) (ts ∷ more) v
        by false then is = absurd (true≢false (sym is ∙ (n.lost then).1))
        by true then is =
            let asked = m.comment (ap is_comment (sym n.kind) ∙ is) in
            let p = n.kept then in
            (n.kind ∙ asked.0, written_on c cs ts more w v p.text p.address asked.1)

    new_owed : ComesOwed (c ∷ cs) before after v
    new_owed is none = elim (k line bare) [
      | inl blank ↦ inl (ap (λ (s : Site). s.address) l.goes ∙ ap (option_and_then (carried cs)) blank)
      | inr header ↦ inr (by (is_here cs mid w) refl header)
    ]
      where
        line : w.kind ≡ kinds.Line
        line = sym n.kind ∙ is

        bare : w.base ≡ None
        bare = ap (λ (s : Site). s.base) (sym l.goes) ∙ none

        by : (y : Bool) → is_here cs mid w ≡ y → At w.address (IsOwedHeader (c ∷ [])) → At v.address (IsOwedHeader (c ∷ cs))
        by false then header = at_map (λ e o. inl (inr o)) v.address (l.header line bare then)
        by true then header =
            header_on c cs w.address v.address (ap (stands parts.Line cs w.address) (sym bare) ∙ sym (line_is cs mid w line) ∙ then)
            (n.kept then).address header

    -- its comment was counted
    counted : (r s : List TextUnit) (t : List ℕ) (x : ℕ) → times t (texts (comments r)) ≤ times t (texts (comments s)) + x
        → times t (texts (comments (v ∷ r))) ≤ times t (texts (comments (w ∷ s))) + x
    counted r s t x few = by (is_comment v.kind) refl (is_here cs mid w) refl
      where
        by : (z : Bool) → is_comment v.kind ≡ z → (y : Bool) → is_here cs mid w ≡ y
            → times t (texts (cond z (v ∷ comments r) (comments r))) ≤ times t (texts (comments (w ∷ s))) + x
        by false is y then = let e = comment_more (is_comment w.kind) w (comments s) t in omega (arith, few, e)
        by true is false then = absurd (true≢false (sym is ∙ (n.lost then).1))
        by true is true then =
            let other : is_comment w.kind ≡ true = ap is_comment (sym n.kind) ∙ is in
            let a = times_cons t v.piece.text (texts (comments r)) in
            let b = times_cons t w.piece.text (texts (comments s)) in
            let e = ap (λ z. times t (texts (cond z (w ∷ comments s) (comments s)))) other in
            let f : ◌≡◌ {A = ℕ} (cond (bytes_eq t v.piece.text) 1 0) (cond (bytes_eq t w.piece.text) 1 0) =
            ap (λ y. cond {A = ℕ} (bytes_eq t y) 1 0) (n.kept then).text in
            omega (arith, few, a, b, e, f)

  -- ---- the whole way

  pub record Whole (line next : Option Site) (a d : ℕ) (s t : List Step) : Type 0 where
    pub way : List Step
    pub olds_are : olds way ≡ olds s
    pub news_are : news way ≡ news t
    pub fits : Fits (c ∷ cs) (ts ∷ more) before after line a d way
    pub keeps : KeepsIf Firm (c ∷ cs) before after line next a d way
    pub few : (x : List ℕ)
        → times x (texts (comments (added way))) ≤ times x (texts (comments (added s))) + times x (texts (comments (added t)))

  abbrev Meets : List Step → List Step → Type 0
  Meets s t = map bare_unit (news s) ≡ map bare_unit (olds t)

  abbrev GoesOn : List Step → List Step → Type 0
  GoesOn s t = (line mid next : Option Site) (a b d : ℕ) → Fits (c ∷ []) (ts ∷ []) before between line a b s
      → KeepsIf Former (c ∷ []) before between line mid a b s → IsSure Later c s
      → Fits cs more between after mid b d t → KeepsIf Later cs between after mid next b d t → Whole line next a d s t

  -- one more comes by the others
  comes : (v : TextUnit) (s t : List Step) → GoesOn s t → GoesOn s (new v ∷ t)
  comes v s t go line mid next a b d fit keep sure fits keeps =
      let r = go line mid (next_line next (site v)) a b (d + one_line v.kind) fit keep sure fits.1 keeps.1 in
      record {
        way = new v ∷ r.way;
        olds_are = r.olds_are;
        news_are = ap (λ l. v ∷ l) r.news_are;
        fits = (asked fits.0, r.fits);
        keeps = (owed keeps.0, r.keeps);
        few = λ x. comment_on (is_comment v.kind) v (comments (added r.way)) (comments (added t)) x (times x (texts (comments (added s)))) (r.few x);
      }
    where
      asked : IsAsked cs more between after d v → IsAsked (c ∷ cs) (ts ∷ more) before after d v
      asked is = record {
        line = λ line. elim (is.line line) [ inl owed ↦ inl (at_map (λ e o. inr o) v.address owed) | inr last ↦ inr (last.0, last.1, (λ none. cc)) ];
        comment = λ comment. let w = is.comment comment in (w.0, inr w.1);
      }

      owed : ComesOwed cs between after v → ComesOwed (c ∷ cs) before after v
      owed is line none = elim (is line none) [ inl blank ↦ inl blank | inr header ↦ inr (header_later c cs v.address header) ]

  goes : (u : TextUnit) (s t : List Step) → GoesOn s t → GoesOn (old u ∷ s) t
  goes u s t go line mid next a b d fit keep sure fits keeps =
      let r = go (next_line line (site u)) mid next (a + one_line u.kind) b d fit.1 keep sure fits keeps in
      record {
        way = old u ∷ r.way;
        olds_are = ap (λ l. u ∷ l) r.olds_are;
        news_are = r.news_are;
        fits = (lost_on c cs line u fit.0, r.fits);
        keeps = r.keeps;
        few = r.few;
      }

  -- ---- the cases

  head : (w x : TextUnit) (us vs : List TextUnit) → map bare_unit (w ∷ us) ≡ map bare_unit (x ∷ vs) → bare_unit w ≡ bare_unit x
  head w x us vs is = cc

  rest : (w x : TextUnit) (us vs : List TextUnit) → map bare_unit (w ∷ us) ≡ map bare_unit (x ∷ vs) → map bare_unit us ≡ map bare_unit vs
  rest w x us vs is = cc

  next_fits : (w x : TextUnit) → bare_unit w ≡ bare_unit x → (mid : Option Site) (b d : ℕ) (t : List Step)
      → Fits cs more between after (next_line mid (site x)) (b + one_line x.kind) d t
      → Fits cs more between after (next_line mid (site w)) (b + one_line w.kind) d t
  next_fits w x same mid b d t =
      subst (λ (y : TextUnit). Fits cs more between after (next_line mid (site y)) (b + one_line y.kind) d t) (sym same)

  next_keeps : (w x : TextUnit) → bare_unit w ≡ bare_unit x → (mid next : Option Site) (b d : ℕ) (t : List Step)
      → KeepsIf Later cs between after (next_line mid (site x)) next (b + one_line x.kind) d t
      → KeepsIf Later cs between after (next_line mid (site w)) next (b + one_line w.kind) d t
  next_keeps w x same mid next b d t =
      subst (λ (y : TextUnit). KeepsIf Later cs between after (next_line mid (site y)) next (b + one_line y.kind) d t) (sym same)

  none : (t : List Step) → Meets [] t → GoesOn [] t
  none [] is =
      λ line mid next a b d fit keep sure fits keeps. record {
        way = [];
        olds_are = refl;
        news_are = refl;
        fits = tt;
        keeps = tt;
        few = λ x. omega arith;
      }
  none (both x v ∷ t) is = cc
  none (old x ∷ t) is = cc
  none (new v ∷ t) is = comes v [] t (none t is)

  passes : (u w : TextUnit) (s : List Step) → ((t : List Step) → Meets s t → GoesOn s t) → (t : List Step) → Meets (both u w ∷ s) t
      → GoesOn (both u w ∷ s) t
  passes u w s go [] is = cc
  passes u w s go (new v ∷ t) is = comes v (both u w ∷ s) t (passes u w s go t is)
  passes u w s go (old x ∷ t) is = λ line mid next a b d fit keep sure fits keeps.
      let same = head w x (news s) (olds t) is in
      let r =
      go t (rest w x (news s) (olds t) is) (next_line line (site u)) (next_line mid (site w)) next (a + one_line u.kind)
      (b + one_line w.kind) d fit.1 keep.1 sure
      (next_fits w x same mid b d t fits.1) (next_keeps w x same mid next b d t keeps) in
      record {
        way = old u ∷ r.way;
        olds_are = ap (λ l. u ∷ l) r.olds_are;
        news_are = r.news_are;
        fits = (
          kept_on c cs line mid u w keep.0.goes keep.0.home
              ∙ ap (λ y. is_here (c ∷ []) line u && y) (here_is mid next b d w x x same ∙ fits.0) ∙ and-false (is_here (c ∷ []) line u),
          r.fits,
        );
        keeps = r.keeps;
        few = r.few;
      }
  passes u w s go (both x v ∷ t) is = λ line mid next a b d fit keep sure fits keeps.
      let same = head w x (news s) (olds t) is in
      let n = bared_match mid next b d w x v same fits.0 in
      let l = bared_stays mid next b d w x v same keeps.0 in
      let r =
      go t (rest w x (news s) (olds t) is) (next_line line (site u)) (next_line mid (site w)) (next_line next (site v))
      (a + one_line u.kind) (b + one_line w.kind) (d + one_line v.kind) fit.1 keep.1 sure
      (next_fits w x same mid b (d + one_line v.kind) t fits.1)
      (next_keeps w x same mid (next_line next (site v)) b (d + one_line v.kind) t keeps.1) in
      record {
        way = both u v ∷ r.way;
        olds_are = ap (λ l. u ∷ l) r.olds_are;
        news_are = ap (λ l. v ∷ l) r.news_are;
        fits = (both_match line mid next a b d u w v fit.0 keep.0 n l, r.fits);
        keeps = (both_stay line mid next a b d u w v fit.0 keep.0 n l, r.keeps);
        few = r.few;
      }

  came : (w : TextUnit) (s : List Step) → ((t : List Step) → Meets s t → GoesOn s t) → (t : List Step) → Meets (new w ∷ s) t
      → GoesOn (new w ∷ s) t
  came w s go [] is = cc
  came w s go (new v ∷ t) is = comes v (new w ∷ s) t (came w s go t is)
  came w s go (old x ∷ t) is = λ line mid next a b d fit keep sure fits keeps.
      let same = head w x (news s) (olds t) is in
      let r =
      go t (rest w x (news s) (olds t) is) line (next_line mid (site w)) next a (b + one_line w.kind) d fit.1 keep.1 sure.1
      (next_fits w x same mid b d t fits.1) (next_keeps w x same mid next b d t keeps) in
      record {
        way = r.way;
        olds_are = r.olds_are;
        news_are = r.news_are;
        fits = r.fits;
        keeps = r.keeps;
        few = λ y. let e = r.few y in let f = comment_more (is_comment w.kind) w (comments (added s)) y in omega (arith, e, f);
      }
  came w s go (both x v ∷ t) is = λ line mid next a b d fit keep sure fits keeps.
      let same = head w x (news s) (olds t) is in
      let n = bared_match mid next b d w x v same fits.0 in
      let l = bared_stays mid next b d w x v same keeps.0 in
      let r =
      go t (rest w x (news s) (olds t) is) line (next_line mid (site w)) (next_line next (site v)) a (b + one_line w.kind)
      (d + one_line v.kind) fit.1 keep.1 sure.1
      (next_fits w x same mid b (d + one_line v.kind) t fits.1)
      (next_keeps w x same mid (next_line next (site v)) b (d + one_line v.kind) t keeps.1) in
      record {
        way = new v ∷ r.way;
        olds_are = r.olds_are;
        news_are = ap (λ l. v ∷ l) r.news_are;
        fits = (new_asked mid next b d w v fit.0 keep.0 sure.0 n l, r.fits);
        keeps = (new_owed mid next b d w v fit.0 keep.0 sure.0 n l, r.keeps);
        few = λ y. counted mid next b d w v fit.0 keep.0 sure.0 n l (added r.way) (added s) y (times y (texts (comments (added t)))) (r.few y);
      }

  pub goes_on : (s t : List Step) → Meets s t → GoesOn s t
  goes_on [] t is = none t is
  goes_on (both u w ∷ s) t is = passes u w s (λ r e. goes_on s r e) t is
  goes_on (old u ∷ s) t is = goes u s t (goes_on s t is)
  goes_on (new w ∷ s) t is = came w s (λ r e. goes_on s r e) t is
