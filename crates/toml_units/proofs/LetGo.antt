-- A cursor that let go what it walked past stands where it stood.
use Rattle.std.proofs.Common.{◌≡◌, ◌∙◌, ◌<◌, ◌+◌, ◌*◌, ◌∷◌, ◌++◌, ℕ, zero, suc, List, [], drop, length, Ok, Err, Result, option_map, refl, sym, ap, subst}
use Rattle.std.specs.Prelude.{slice_get}
use Rattle.std.specs.declared.alloc.AllocError.{AllocError}
use Rattle.toml_tree.specs.declared.profile.Profile.{Profile}
use Rattle.toml_units.specs.declared.cursor.UnitCursor.{UnitCursor}
use Rattle.toml_units.specs.declared.unit.Unit.{Unit as Made}
use Rattle.toml_units.specs.Cursors.{Goes, HasLetGo, Moves, StepsOn, Walks, ahead, current, lined_first, newlines_ahead, to_go}
use Rattle.toml_units.specs.Lined.{LinedUnit}
use Rattle.toml_units.specs.Opened.{opened_items, opened_units}
use Rattle.toml_units.specs.Reading.{HasRead, IsAtEnd, to_read}
use Rattle.toml_units.specs.View.{all_units, unit}

-- what stands at a place is the first of what is left there
first_left : {A : Type 0} (i : ℕ) (xs : List A) → slice_get (drop i xs) 0 ≡ slice_get xs i
first_left zero xs = refl
first_left (suc i) [] = refl
first_left (suc i) (x ∷ xs) = first_left i xs

module _ (old new : UnitCursor) (h : HasLetGo old new) where
  pub same_current : current new ≡ current old
  same_current =
      let at : slice_get new.units.items new.place ≡ slice_get old.units.items old.place =
      sym (first_left new.place new.units.items) ∙ ap (λ us. slice_get us 0) h.units ∙ first_left old.place old.units.items in
      (λ i. option_map (λ (u : Made). record { unit = unit u; newline = (h.newline i).now }) (at i))

  same_ahead : ahead new ≡ ahead old
  same_ahead = λ i. lined_first (h.newline i).now (newlines_ahead (record { reading = h.reading i; units = old.units; place = old.place; newline = h.newline i; newlines = h.newlines i })) (all_units (h.units i) ++ opened_units (h.reading i).opened)

  same_to_go : to_go new ≡ to_go old
  same_to_go = λ i. (to_read (h.reading i).left * 18446744073709551616 + opened_items (h.reading i).opened) * 18446744073709551616 + length (h.units i)

  pub still_walks : (profile : Profile) (text : List ℕ) (past : List LinedUnit) → Walks profile text old past → Walks profile text new past
  still_walks profile text past w = record {
    stands = record {
      lines = w.stands.lines;
      read = subst (λ r. HasRead profile text r w.stands.lines) (sym h.reading) w.stands.read;
      units = λ left. w.stands.units (λ refused. left (ap (λ r. r.left) h.reading ∙ refused)) ∙ ap (λ us. past ++ us) (sym same_ahead);
      none = λ refused. same_ahead ∙ w.stands.none (sym (ap (λ r. r.left) h.reading) ∙ refused);
    };
    some = λ none. subst IsAtEnd (sym h.reading) (w.some (sym same_current ∙ none));
  }

  pub still_goes : Goes old → Goes new
  still_goes (profile, text, past, w) = (profile, text, past, still_walks profile text past w)

  pub still_moves : (profile : Profile) (text : List ℕ) (past : List LinedUnit) (last : UnitCursor) → Moves profile text past new last → Moves profile text past old last
  still_moves profile text past last m = record {
    walks = λ x is. m.walks x (same_current ∙ is);
    less = subst (λ n. to_go last < n) same_to_go m.less;
  }

  pub still_steps : (last : UnitCursor) (r : Result (Unit {0}) AllocError) → StepsOn new last r → StepsOn old last r
  still_steps last (Ok u) steps = λ profile text past w. still_moves profile text past last (steps profile text past (still_walks profile text past w))
  still_steps last (Err e) steps = λ profile text past w. tt
