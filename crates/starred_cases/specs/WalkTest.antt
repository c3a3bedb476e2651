-- What the tests of walks say of the rules. Assumes nothing.
use Rattle.std.specs.Prelude.{◌≡◌, refl, Bool, true, cond, ◌⊎◌, List, [], ◌∷◌, ℕ, zero, suc, ◌<◌, eqb, ltb, length, pos, ◌<ℤ◌}
use Rattle.std.proofs.Common.{sym, subst, inl, inr, arith, eqb-true, eq-eqb, lt-ltb, ltb-true}
use Rattle.std.proofs.Math.Decide.{dec_lt}
use Rattle.std.specs.Int.Signed.{lt_z}
use Rattle.laws.specs.Entry.{vec}
use Rattle.laws.specs.Z.{true_false, lt_z_true, true_lt_z}
use Rattle.laws.specs.Count.{both_true, both_show}
use Rattle.dependence.specs.declared.Graph.{Graph}
use Rattle.dependence.specs.Graph.{edge_at}
use Rattle.dependence.specs.Rules.{Chain, here, step, sum, BadWalk, LexLess, FirstBadWalk}
use Rattle.starred_cases.specs.Tests.{both, up_to, every, lex_then, chain_test, bad_test, first_walk_test}
use Rattle.starred_cases.specs.Lists.{up_at, every_at, lex_before}

chain_is : (g : Graph) (i : ℕ) (ks : List ℕ) (j : ℕ) → chain_test g i ks j ≡ true → Chain g i ks j
unfolding chain_test
chain_is g i [] j e = subst (λ (x : ℕ). Chain g i [] x) (eqb-true i j e) here
chain_is g i (k ∷ ks) j e =
    let a = both_true (ltb k g.edge_count) (both (eqb (edge_at g k).from i) (chain_test g (edge_at g k).to ks j)) e in
    let b = both_true (eqb (edge_at g k).from i) (chain_test g (edge_at g k).to ks j) a.1 in
    subst (λ (x : ℕ). Chain g x (k ∷ ks) j) (eqb-true (edge_at g k).from i b.0) (step (ltb-true k g.edge_count a.0) (chain_is g (edge_at g k).to ks j b.1))

chain_show : {g : Graph} {i j : ℕ} {ks : List ℕ} → Chain g i ks j → chain_test g i ks j ≡ true
unfolding chain_test
chain_show {i = i} here = eq-eqb i i refl
chain_show {g} (step {k = k} l c) = both_show (ltb k g.edge_count) _ (lt-ltb k g.edge_count l) (both_show (eqb (edge_at g k).from (edge_at g k).from) _ (eq-eqb (edge_at g k).from (edge_at g k).from refl) (chain_show c))

chain_below : {g : Graph} {i j : ℕ} {ks : List ℕ} → Chain g i ks j → (m : ℕ) → m < length ks → vec ks m < g.edge_count
chain_below here m h = absurd (omega arith)
chain_below (step l c) zero h = l
chain_below (step l c) (suc m) h = chain_below c m (omega arith)

pub bad_is : (g : Graph) (L : ℕ) (ks : List ℕ) → bad_test g L ks ≡ true → BadWalk g L ks
bad_is g L [] e = true_false (sym e)
bad_is g L (k ∷ ks) e =
    let a = both_true (chain_test g (edge_at g k).from (k ∷ ks) (edge_at g k).from) (lt_z (pos 0) (sum g L (k ∷ ks))) e in
    record { at = (edge_at g k).from; chain = chain_is g (edge_at g k).from (k ∷ ks) (edge_at g k).from a.0; non_empty = omega arith; positive = lt_z_true (pos 0) (sum g L (k ∷ ks)) a.1 }

bad_at : (g : Graph) (L at : ℕ) (js : List ℕ) → chain_test g at js at ≡ true → 0 < length js → pos 0 <ℤ sum g L js → bad_test g L js ≡ true
unfolding chain_test
bad_at g L at [] c n p = absurd (omega arith)
bad_at g L at (k ∷ ks) c n p =
    let a = both_true (ltb k g.edge_count) (both (eqb (edge_at g k).from at) (chain_test g (edge_at g k).to ks at)) c in
    let b = both_true (eqb (edge_at g k).from at) (chain_test g (edge_at g k).to ks at) a.1 in
    both_show (chain_test g (edge_at g k).from (k ∷ ks) (edge_at g k).from) _
    (subst (λ (x : ℕ). chain_test g x (k ∷ ks) x ≡ true) (sym (eqb-true (edge_at g k).from at b.0)) c) (true_lt_z p)

bad_show : {g : Graph} {L : ℕ} {js : List ℕ} → BadWalk g L js → bad_test g L js ≡ true
bad_show {g} {L} {js} b = bad_at g L b.at js (chain_show b.chain) b.non_empty b.positive

pub first_walk_is : (g : Graph) (L : ℕ) (ks : List ℕ) → first_walk_test g L ks ≡ true → FirstBadWalk g L ks
unfolding first_walk_test
first_walk_is g L ks e =
    let a = both_true (bad_test g L ks) _ e in
    record { bad = bad_is g L ks a.0; first = λ js b. pick a.1 js b (dec_lt (length ks) (length js)) }
  where
    ask : ℕ → List ℕ → Bool
    ask m js = cond (bad_test g L js) (both (eqb m (length ks)) (lex_then ks js true)) true

    pick : up_to (suc (length ks)) (λ m. every m g.edge_count (ask m)) ≡ true → (js : List ℕ) → BadWalk g L js → Dec (length ks < length js)
        → (length ks < length js) ⊎ ((length ks ≡ length js) × ((ks ≡ js) ⊎ LexLess ks js))
    pick all js b (yes l) = inl l
    pick all js b (no l) =
        let x = up_at (suc (length ks)) (λ m. every m g.edge_count (ask m)) all (length js) (omega arith) in
        let y = every_at (length js) g.edge_count (ask (length js)) x js refl (chain_below b.chain) in
        let z = both_true (eqb (length js) (length ks)) (lex_then ks js true) (rw (bad_show b) at y) in
        let m = sym (eqb-true (length js) (length ks) z.0) in
        inr (m, lex_before ks js m z.1)
