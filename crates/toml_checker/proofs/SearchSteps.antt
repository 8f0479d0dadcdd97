-- The search on the way through two texts, step by step.
use Rattle.std.proofs.Common.{◌≡◌, ◌⊎◌, ◌↔◌, inl, inr, ℕ, ◌+◌, ◌<◌, ◌≤◌, true, false, List, [], ◌∷◌, ◌++◌, length, length-append, Some, refl, sym, ap, subst, ◌∙◌, arith}
use Rattle.std.proofs.lemmas.Bool.{cases_lt}
use Rattle.std.proofs.lemmas.List.{append-nil}
use Rattle.std.proofs.lemmas.Option.{same_Some, slice_get_within}
use Rattle.std.specs.Prelude.{slice_get}
use Rattle.toml_edits.specs.Edits.{Change}
use Rattle.toml_units.specs.Lined.{LinedUnit}
use Rattle.toml_checker.specs.Marks.{IsSet}
use Rattle.toml_checker.specs.Pairs.{Rise, RiseFrom, IsFirst, IsSecond}
use Rattle.toml_checker.specs.Traces.{AreAlike, Met, lined_of, paired_of}
use Rattle.toml_checker.proofs.Traced.{lined_push, last_mark, marks_still}
use Rattle.toml_checker.specs.Search.{behind}
use Rattle.toml_checker.specs.SearchTraces.{is_outer, IsNextIn, AreNextIn, HasFound, NoneFits}
use Rattle.toml_checker.proofs.KeptTraces.{many_paired}
use Rattle.toml_checker.proofs.SearchTraces.{at_place, get_left, long_lined, next_in_more, paired_more, set_within}

pub found_nothing : (cs : List Change) (text other : List ℕ) → HasFound cs text [] other [] []
found_nothing cs text other = record {
  paired = tt;
  marked = record { first = λ i. ((λ s. cc), (λ f. absurd f)); second = λ i. ((λ s. cc), (λ f. absurd f)) };
  rise = tt;
  next = tt;
  low = omega arith;
}

-- a unit that is not an outermost protected one
pub found_past : (cs : List Change) (text other : List ℕ) (ms ns : List Met) (ps : List (ℕ × ℕ)) (x : LinedUnit) → HasFound cs text ms other ns ps → is_outer cs ms x.unit ≡ false → HasFound cs text (ms ++ record { lined = x; paired = false } ∷ []) other ns ps
found_past cs text other ms ns ps x h free = record {
  paired = paired_more cs [] ms (record { lined = x; paired = false } ∷ []) h.paired (sym free, tt);
  marked = record { first = marks_still (IsFirst ps) ms (record { lined = x; paired = false } ∷ []) (refl, tt) h.marked.first; second = h.marked.second };
  rise = h.rise;
  next =
      subst (λ us. AreNextIn cs text us other (lined_of ns) 0 ps) (sym (lined_push ms (record { lined = x; paired = false })))
      (subst (λ us. AreNextIn cs text (lined_of ms ++ x ∷ []) other us 0 ps) (append-nil (lined_of ns)) (next_in_more cs text (lined_of ms) (x ∷ []) other (lined_of ns) [] 0 ps h.next));
  low = h.low;
}

-- a unit of the second text that is not the same as the unit in hand
pub found_beside : (cs : List Change) (text other : List ℕ) (ms ns : List Met) (ps : List (ℕ × ℕ)) (y : LinedUnit) → HasFound cs text ms other ns ps → HasFound cs text ms other (ns ++ record { lined = y; paired = false } ∷ []) ps
found_beside cs text other ms ns ps y h = record {
  paired = h.paired;
  marked = record { first = h.marked.first; second = marks_still (IsSecond ps) ns (record { lined = y; paired = false } ∷ []) (refl, tt) h.marked.second };
  rise = h.rise;
  next =
      subst (λ us. AreNextIn cs text (lined_of ms) other us 0 ps) (sym (lined_push ns (record { lined = y; paired = false })))
      (subst (λ us. AreNextIn cs text us other (lined_of ns ++ y ∷ []) 0 ps) (append-nil (lined_of ms)) (next_in_more cs text (lined_of ms) [] other (lined_of ns) (y ∷ []) 0 ps h.next));
  low = omega (arith, h.low, length-append ns (record { lined = y; paired = false } ∷ []));
}

pub none_yet : (cs : List Change) (text : List ℕ) (x : LinedUnit) (other : List ℕ) (ns : List Met) (ps : List (ℕ × ℕ)) → behind 0 ps ≡ length ns → NoneFits cs text x other ns ps
none_yet cs text x other ns ps here j y low is = absurd (omega (arith, here, low, slice_get_within (lined_of ns) j y is, long_lined ns))

pub none_more : (cs : List Change) (text : List ℕ) (x : LinedUnit) (other : List ℕ) (ns : List Met) (ps : List (ℕ × ℕ)) (y : LinedUnit) → NoneFits cs text x other ns ps → ¬ AreAlike cs text x other y → NoneFits cs text x other (ns ++ record { lined = y; paired = false } ∷ []) ps
none_more cs text x other ns ps y none unlike j z low is = by (cases_lt j (length (lined_of ns)))
  where
    there : slice_get (lined_of ns ++ y ∷ []) j ≡ Some z
    there = ap (λ us. slice_get us j) (sym (lined_push ns (record { lined = y; paired = false }))) ∙ is

    by : (j < length (lined_of ns)) ⊎ (length (lined_of ns) ≤ j) → ¬ AreAlike cs text x other z
    by (inl lt) = none j z low (sym (get_left (lined_of ns) (y ∷ []) j lt) ∙ there)
    by (inr ge) =
        let at : length (lined_of ns) ≡ j = omega (arith, ge, slice_get_within (lined_of ns ++ y ∷ []) j z there, length-append (lined_of ns) (y ∷ [])) in
        let same : y ≡ z = same_Some y z (sym (at_place (lined_of ns) y []) ∙ ap (slice_get (lined_of ns ++ y ∷ [])) at ∙ there) in
        subst (λ u. ¬ AreAlike cs text x other u) same unlike

next_push : (cs : List Change) (text : List ℕ) (xs : List LinedUnit) (other : List ℕ) (ys : List LinedUnit) (from : ℕ) (ps : List (ℕ × ℕ)) (i k : ℕ) → AreNextIn cs text xs other ys from ps → IsNextIn cs text xs other ys i (behind from ps) k → AreNextIn cs text xs other ys from (ps ++ (i, k) ∷ [])
next_push cs text xs other ys from [] i k h n = (n, tt)
next_push cs text xs other ys from (p ∷ ps) i k h n = (h.0, next_push cs text xs other ys (p.1 + 1) ps i k h.1 n)

first_push : (ps : List (ℕ × ℕ)) (i k j : ℕ) → IsFirst (ps ++ (i, k) ∷ []) j ↔ (IsFirst ps j ⊎ (i ≡ j))
first_push [] i k j = ((λ w. elim w [ inl e ↦ inr e | inr f ↦ absurd f ]), (λ w. elim w [ inl f ↦ absurd f | inr e ↦ inl e ]))
first_push (p ∷ ps) i k j = let r = first_push ps i k j in (
  (λ w. elim w [ inl e ↦ inl (inl e) | inr f ↦ elim (r.0 f) [ inl g ↦ inl (inr g) | inr e ↦ inr e ] ]),
  (λ w. elim w [ inl g ↦ elim g [ inl e ↦ inl e | inr f ↦ inr (r.1 (inl f)) ] | inr e ↦ inr (r.1 (inr e)) ]),
)

second_push : (ps : List (ℕ × ℕ)) (i k j : ℕ) → IsSecond (ps ++ (i, k) ∷ []) j ↔ (IsSecond ps j ⊎ (k ≡ j))
second_push [] i k j = ((λ w. elim w [ inl e ↦ inr e | inr f ↦ absurd f ]), (λ w. elim w [ inl f ↦ absurd f | inr e ↦ inl e ]))
second_push (p ∷ ps) i k j = let r = second_push ps i k j in (
  (λ w. elim w [ inl e ↦ inl (inl e) | inr f ↦ elim (r.0 f) [ inl g ↦ inl (inr g) | inr e ↦ inr e ] ]),
  (λ w. elim w [ inl g ↦ elim g [ inl e ↦ inl e | inr f ↦ inr (r.1 (inl f)) ] | inr e ↦ inr (r.1 (inr e)) ]),
)

rise_from_push : (i k : ℕ) (ps : List (ℕ × ℕ)) (a b : ℕ) → RiseFrom i k ps → i < a → k < b → ((j : ℕ) → IsFirst ps j → j < a) → ((j : ℕ) → IsSecond ps j → j < b) → RiseFrom i k (ps ++ (a, b) ∷ [])
rise_from_push i k [] a b r l m f s = (l, m, tt)
rise_from_push i k (p ∷ ps) a b r l m f s = (r.0, r.1, rise_from_push p.0 p.1 ps a b r.2 (f p.0 (inl refl)) (s p.1 (inl refl)) (λ j h. f j (inr h)) (λ j h. s j (inr h)))

rise_push : (ps : List (ℕ × ℕ)) (a b : ℕ) → Rise ps → ((j : ℕ) → IsFirst ps j → j < a) → ((j : ℕ) → IsSecond ps j → j < b) → Rise (ps ++ (a, b) ∷ [])
rise_push [] a b r f s = tt
rise_push (p ∷ ps) a b r f s = rise_from_push p.0 p.1 ps a b r (f p.0 (inl refl)) (s p.1 (inl refl)) (λ j h. f j (inr h)) (λ j h. s j (inr h))

behind_push : (from : ℕ) (ps : List (ℕ × ℕ)) (i k : ℕ) → behind from (ps ++ (i, k) ∷ []) ≡ k + 1
behind_push from [] i k = refl
behind_push from (p ∷ ps) i k = behind_push (p.1 + 1) ps i k

push_marks : (ms : List Met) (x : LinedUnit) (P Q : ℕ → Type 0) → ((i : ℕ) → IsSet (paired_of ms) i ↔ P i) → ((i : ℕ) → Q i ↔ (P i ⊎ (length ms ≡ i))) → (i : ℕ) → IsSet (paired_of (ms ++ record { lined = x; paired = true } ∷ [])) i ↔ Q i
push_marks ms x P Q marks push i =
    let l = last_mark ms x i in
    let m = marks i in
    let q = push i in (
      (λ s. q.1 (elim (l.0 s) [ inl a ↦ inl (m.0 a) | inr e ↦ inr e ])),
      (λ w. l.1 (elim (q.0 w) [ inl a ↦ inl (m.1 a) | inr e ↦ inr e ])),
    )

-- both units in hand, which are the same
pub found_pair : (cs : List Change) (text other : List ℕ) (ms ns : List Met) (ps : List (ℕ × ℕ)) (x y : LinedUnit) → HasFound cs text ms other ns ps → is_outer cs ms x.unit ≡ true → NoneFits cs text x other ns ps → AreAlike cs text x other y
    → HasFound cs text (ms ++ record { lined = x; paired = true } ∷ []) other (ns ++ record { lined = y; paired = true } ∷ []) (ps ++ (length ms, length ns) ∷ [])
found_pair cs text other ms ns ps x y h outer none alike = record {
  paired = paired_more cs [] ms (record { lined = x; paired = true } ∷ []) h.paired (sym outer, tt);
  marked = record {
    first = push_marks ms x (IsFirst ps) (IsFirst (ps ++ (length ms, length ns) ∷ [])) h.marked.first (first_push ps (length ms) (length ns));
    second = push_marks ns y (IsSecond ps) (IsSecond (ps ++ (length ms, length ns) ∷ [])) h.marked.second (second_push ps (length ms) (length ns));
  };
  rise = rise_push ps (length ms) (length ns) h.rise (λ j f. omega (arith, set_within (paired_of ms) j ((h.marked.first j).1 f), many_paired ms)) (λ j s. omega (arith, set_within (paired_of ns) j ((h.marked.second j).1 s), many_paired ns));
  next =
      subst (λ us. AreNextIn cs text us other (lined_of (ns ++ record { lined = y; paired = true } ∷ [])) 0 (ps ++ (length ms, length ns) ∷ [])) (sym (lined_push ms (record { lined = x; paired = true })))
      (subst (λ us. AreNextIn cs text (lined_of ms ++ x ∷ []) other us 0 (ps ++ (length ms, length ns) ∷ [])) (sym (lined_push ns (record { lined = y; paired = true })))
      (next_push cs text (lined_of ms ++ x ∷ []) other (lined_of ns ++ y ∷ []) 0 ps (length ms) (length ns) (next_in_more cs text (lined_of ms) (x ∷ []) other (lined_of ns) (y ∷ []) 0 ps h.next) last));
  low = omega (arith, behind_push 0 ps (length ms) (length ns), length-append ns (record { lined = y; paired = true } ∷ []));
}
  where
    first_at : slice_get (lined_of ms ++ x ∷ []) (length ms) ≡ Some x
    first_at = subst (λ n. slice_get (lined_of ms ++ x ∷ []) n ≡ Some x) (long_lined ms) (at_place (lined_of ms) x [])

    second_at : slice_get (lined_of ns ++ y ∷ []) (length ns) ≡ Some y
    second_at = subst (λ n. slice_get (lined_of ns ++ y ∷ []) n ≡ Some y) (long_lined ns) (at_place (lined_of ns) y [])

    last : IsNextIn cs text (lined_of ms ++ x ∷ []) other (lined_of ns ++ y ∷ []) (length ms) (behind 0 ps) (length ns)
    last = record {
      low = h.low;
      stands = record { first = x; first_is = first_at; second = y; second_is = second_at; alike = alike };
      first = λ j l m s.
          let same : s.first ≡ x = same_Some s.first x (sym s.first_is ∙ first_at) in
          none j s.second l (sym (get_left (lined_of ns) (y ∷ []) j (omega (arith, m, long_lined ns))) ∙ s.second_is) (subst (λ u. AreAlike cs text u other s.second) same s.alike);
    }

pub here_again : (ps : List (ℕ × ℕ)) (i : ℕ) (ns : List Met) (y : LinedUnit) → behind 0 (ps ++ (i, length ns) ∷ []) ≡ length (ns ++ record { lined = y; paired = true } ∷ [])
here_again ps i ns y = omega (arith, behind_push 0 ps i (length ns), length-append ns (record { lined = y; paired = true } ∷ []))
