-- Both texts, gone on to the units of a pair.
use Rattle.std.proofs.Common.{◌≡◌, ℕ, Bool, true, false, true≢false, List, [], ◌∷◌, ◌++◌, length, length-append, Some, refl, sym, subst, ◌∙◌, arith, append_assoc}
use Rattle.std.specs.Prelude.{slice_get}
use Rattle.toml_tree.specs.declared.profile.Profile.{Profile}
use Rattle.toml_edits.specs.Edits.{Change}
use Rattle.toml_units.specs.Lined.{LinedUnit}
use Rattle.toml_checker.specs.declared.edit_list.EditList.{EditList}
use Rattle.toml_checker.specs.declared.walk.FirstText.{FirstText}
use Rattle.toml_checker.specs.declared.walk.SecondText.{SecondText}
use Rattle.toml_checker.specs.declared.walk.Walk.{Walk}
use Rattle.toml_checker.specs.EditLists.{changes}
use Rattle.toml_checker.specs.Traces.{AreAlike, Met}
use Rattle.toml_checker.specs.Walking.{HasPassed, HasReached, IsOn, IsPairHere, IsPairedAt, MayBeAll, NextFits, PairTold, PassesOne, PassesTo, ReachesOne, ReachesTo, TellsPair}
use Rattle.toml_checker.proofs.PairHere.{back_here, here_is, paired_at, reached}

module _ (profile : Profile) (cs : List Change) (old : Walk) (ms ns : List Met) (p : ℕ × ℕ) (on : IsOn profile cs old ms ns)
    (one : FirstText) (other : SecondText) (list : EditList) (listed : changes list ≡ cs) (one_text : one.text ≡ old.one.text) (other_text : other.text ≡ old.other.text)
    (first : PassesTo profile cs old.one ms (Some p.0) one) (second : ReachesTo profile old.asked old.other ns (Some p.1) other) where
  abbrev mid : Walk
  mid = record { list = list; asked = old.asked; one = one; other = other }

  on_mid : IsOn profile cs mid (ms ++ first.more) (ns ++ second.more)
  on_mid = record { edits = listed; asks = on.asks; first = first.holds; second = second.holds }

  back : (xs ys : List LinedUnit) → MayBeAll mid (ms ++ first.more) (ns ++ second.more) xs ys → MayBeAll old ms ns xs ys
  back xs ys m = record { first = first.goes.back xs m.first; second = second.goes.back ys m.second; first_few = m.first_few; second_few = m.second_few }

  module _ (xs ys : List LinedUnit) (m : MayBeAll mid (ms ++ first.more) (ns ++ second.more) xs ys) where
    pair_here : NextFits cs old.one.text.now xs old.other.text.now ys (length ms) (length ns) p → IsPairHere cs one other p
    pair_here f =
        let a = reached first first.holds.passed on.first.passed xs m.first_few m.first f.stands.first f.stands.first_is f.first in
        let b = reached second second.holds.passed on.second.passed ys m.second_few m.second f.stands.second f.stands.second_is f.second in
        record {
          first_at = a.0;
          second_at = b.0;
          first = f.stands.first;
          first_is = a.1;
          second = f.stands.second;
          second_is = b.1;
          alike = subst (λ t. AreAlike cs t.now f.stands.first other.text.now f.stands.second) (sym one_text) (subst (λ t. AreAlike cs old.one.text.now f.stands.first t.now f.stands.second) (sym other_text) f.stands.alike);
        }

    module _ (h : IsPairHere cs one other p) where
      at_first : (slice_get xs p.0 ≡ Some h.first) × (length (ms ++ first.more) ≡ p.0)
      at_first = here_is first first.holds.passed on.first.passed xs m.first_few m.first h.first h.first_is h.first_at

      at_second : (slice_get ys p.1 ≡ Some h.second) × (length (ns ++ second.more) ≡ p.1)
      at_second = here_is second second.holds.passed on.second.passed ys m.second_few m.second h.second h.second_is h.second_at

      fits : NextFits cs old.one.text.now xs old.other.text.now ys (length ms) (length ns) p
      fits = record {
        first = omega (arith, at_first.1, length-append ms first.more);
        second = omega (arith, at_second.1, length-append ns second.more);
        stands = record {
          first = h.first;
          first_is = at_first.0;
          second = h.second;
          second_is = at_second.0;
          alike = subst (λ t. AreAlike cs t.now h.first old.other.text.now h.second) one_text (subst (λ t. AreAlike cs one.text.now h.first t.now h.second) other_text h.alike);
        };
      }

      marked_first : IsPairedAt p.0 ms (ms ++ (first.more ++ record { lined = h.first; paired = true } ∷ []))
      marked_first = paired_at first h.first at_first.1

      marked_second : IsPairedAt p.1 ns (ns ++ (second.more ++ record { lined = h.second; paired = true } ∷ []))
      marked_second = paired_at second h.second at_second.1

  -- the pair is not there, or its units are not the same
  pub pair_misfits : (b : Bool) → TellsPair cs one other p b → b ≡ false → PairTold profile cs old ms ns p mid false
  pair_misfits b t no_ = record {
    one = first.more;
    other = second.more;
    on = on_mid;
    first_text = one_text;
    second_text = other_text;
    back = back;
    told = λ xs ys m. ((λ e. absurd (true≢false (sym e))), (λ f. sym no_ ∙ t.1 (pair_here xs ys m f)));
    marked = λ xs ys m e. absurd (true≢false (sym e));
  }

  module _ (b : Bool) (t : TellsPair cs one other p b) (yes : b ≡ true) (new_one : FirstText) (new_other : SecondText) (new_list : EditList) (new_listed : changes new_list ≡ cs)
      (new_one_text : new_one.text ≡ one.text) (new_other_text : new_other.text ≡ other.text)
      (more_first : PassesOne profile cs one (ms ++ first.more) true new_one) (more_second : ReachesOne profile old.asked other (ns ++ second.more) true new_other) where
    abbrev new : Walk
    new = record { list = new_list; asked = old.asked; one = new_one; other = new_other }

    h : IsPairHere cs one other p
    h = t.0 yes

    abbrev x : Met
    x = record { lined = h.first; paired = true }

    abbrev y : Met
    y = record { lined = h.second; paired = true }

    to_mid : (xs ys : List LinedUnit) → MayBeAll new (ms ++ (first.more ++ x ∷ [])) (ns ++ (second.more ++ y ∷ [])) xs ys → MayBeAll mid (ms ++ first.more) (ns ++ second.more) xs ys
    to_mid xs ys m = record {
      first = back_here first new_one.cursor h.first xs h.first_is m.first;
      second = back_here second new_other.cursor h.second ys h.second_is m.second;
      first_few = m.first_few;
      second_few = m.second_few;
    }

    pub pair_fits : PairTold profile cs old ms ns p new true
    pair_fits = record {
      one = first.more ++ x ∷ [];
      other = second.more ++ y ∷ [];
      on = record {
        edits = new_listed;
        asks = on.asks;
        first = subst (HasPassed profile cs new_one) (append_assoc ms first.more (x ∷ [])) (more_first h.first h.first_is);
        second = subst (HasReached profile old.asked new_other) (append_assoc ns second.more (y ∷ [])) (more_second h.second h.second_is);
      };
      first_text = new_one_text ∙ one_text;
      second_text = new_other_text ∙ other_text;
      back = λ xs ys m. back xs ys (to_mid xs ys m);
      told = λ xs ys m. ((λ e. fits xs ys (to_mid xs ys m) h), (λ f. refl));
      marked = λ xs ys m e. (marked_first xs ys (to_mid xs ys m) h, marked_second xs ys (to_mid xs ys m) h);
    }
