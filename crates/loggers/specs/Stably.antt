-- Pessimistic logging is lawful.
use Rattle.std.specs.Prelude.{◌≡◌, ℕ, Bool, true, ◌⊎◌, refl}
use Rattle.std.proofs.Common.{sym, subst, inl, inr, ⊎_elim, arith}
use Rattle.std.proofs.lemmas.Bool.Decides.{nat_tests}
use Rattle.logger.specs.declared.determinant.Determinant.{Determinant}
use Rattle.logger.specs.Operation.{Operation, Allowed, Lawful, start, carry, note, spread, lose, rejoin}
use Rattle.logger.specs.Sources.{source, is_source}
use Rattle.loggers.specs.Pessimistic.{State, Stored, with_determinant, after, means}
use Rattle.logger.proofs.Sources.{same_determinant}

abbrev has : Stored → Determinant → Bool
has t d = is_source (t d.receiver d.number) (source d)

-- what is stored after d was put there
put_only : (t : Stored) (d e : Determinant) → has (with_determinant t d) e ≡ true → (has t e ≡ true) ⊎ (e ≡ d)
put_only t d e h = grind (arith, nat_tests, same_determinant e d)

put_here : (t : Stored) (d : Determinant) → has (with_determinant t d) d ≡ true
put_here t d = grind (arith, nat_tests)

put_keeps : (t : Stored) (d e : Determinant) → has t e ≡ true → (e.receiver ≡ d.receiver → e.number ≡ d.number → e ≡ d) → has (with_determinant t d) e ≡ true
put_keeps t d e h one = grind (arith, nat_tests)

noted : (p : ℕ) (d : Determinant) (a : State) → Allowed (note p d) (means a) → Lawful (note p d) (means a) (means (after (note p d) a))
noted p d a w = record {
  allowed = w;
  grows = record {
    same_n = refl;
    same_f = refl;
    same_down = λ h. refl;
    keeps_held = λ h e x. x;
    keeps_stored = λ e x. put_keeps a.store d e x (λ i j. w.only e i j (inl x));
  };
  noted = inr (put_here a.store d);
  held_gains = λ h e x. inl x;
  stored_gains = λ e x. ⊎_elim inl (λ y. inr (inl y)) (put_only a.store d e x);
  covers = λ e x y g z. grind arith;
}

by_rule : (op : Operation) (a : State) → Allowed op (means a) → Lawful op (means a) (means (after op a))
by_rule (start n f) a w = grind arith
by_rule (carry s p) a w = grind arith
by_rule (note p d) a w = noted p d a w
by_rule (spread p) a w = grind arith
by_rule (lose p) a w = grind (arith, nat_tests)
by_rule rejoin a w = grind arith

pub lawful : (op : Operation) (a b : State) → Allowed op (means a) → b ≡ after op a → Lawful op (means a) (means b)
lawful op a b w e = subst (λ (x : State). Lawful op (means a) (means x)) (sym e) (by_rule op a w)
