use Rattle.std.proofs.Common.{◌≡◌, ◌<◌, ◌∙◌, refl, ap, get_or, get_or-take, length-take, ℤ, pos, to_z, of_z, arith, rules, length-set, get_or-set_other}
use Rattle.std.specs.Int.{w32}
use Rattle.std.proofs.lemmas.Grind.{common_steps}
use Rattle.std.proofs.lemmas.List.{get_or-replicate}
use Rattle.sizes.specs.Sizes.{most_edges}
use Rattle.laws.specs.Store.{store_more}
use Rattle.laws.specs.Z.{kept}
use Rattle.dependence.specs.declared.Edge.{Edge}
use Rattle.dependence.specs.Graph.{no_edge, edge_at, total_of, total, delay_fits}
use Rattle.dependence.proofs.edge_totals.totals_of.Goals as goal

pub loop-k-init : goal.loop-k-init
loop-k-init c = record { long = refl; each = λ x h. absurd (omega arith); rest = λ x _ h. get_or-replicate {A = ℤ} most_edges x (pos 0) (pos 0) h }

pub loop-k-preserved : goal.loop-k-preserved
loop-k-preserved c =
    let l = c.loop-k in
    let z = to_z w32 (of_z w32 c.total_of.result) in
    let g = c.args.graph in
    let within : l.k < g.edge_count = omega (arith, c.loop-k-test.true, length-take g.edge_count g.edges) in
    let said : c.total_of.result ≡ total g c.args.interval l.k =
    c.total_of.ensures
    ∙ ap (λ (e : Edge). total_of (get_or g.latency e.from 0) (to_z w32 (of_z w32 e.delay)) e.distance c.args.interval) (get_or-take g.edge_count g.edges l.k no_edge within)
    ∙ ap (λ (d : ℤ). total_of (get_or g.latency (edge_at g l.k).from 0) d (edge_at g l.k).distance c.args.interval) (kept (delay_fits (c.requires.0.edge_ok l.k within))) in
    let same : z ≡ c.total_of.result = grind (arith, common_steps) in
    let here : z ≡ total g c.args.interval l.k = same ∙ said in
    record {
      long = simp length-set l.invariant.long;
      each = store_more (λ x z. z ≡ total c.args.graph c.args.interval x) l.out l.k z (pos 0) (search rules) here l.invariant.each;
      rest = λ x a b. get_or-set_other l.out l.k x z (pos 0) (λ q. absurd (omega (arith, a, q))) ∙ l.invariant.rest x (omega (arith, a)) b;
    }
