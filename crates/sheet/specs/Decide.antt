-- The ranges of a sheet's numbers are decided. These compute, so that a sheet's answer does.
-- Assumes nothing.
use Rattle.std.specs.Prelude.{◌≡◌, refl, Bool, true, false, ℕ, ◌<◌, ◌≤◌, ltb, leb, ℤ, pos, ◌≤ℤ◌}
use Rattle.std.proofs.Common.{sym, ◌∙◌, ltb-true, lt-ltb, leb-true, le-leb}
use Rattle.std.specs.Int.Signed.{le_z}
use Rattle.laws.specs.Z.{le_z_true, true_le_z, true_false}
use Rattle.dependence.specs.declared.Edge.{Edge}
use Rattle.sheet.specs.declared.Operation.{Operation}
use Rattle.sheet.specs.declared.ResourceType.{ResourceType}
use Rattle.sheet.specs.Ranges as range
use Rattle.sheet.specs.Sheet.{TypeInRange, OpInRange, NonEmptyWindow, EdgeInRange}

-- the same decision of an equivalent statement
abbrev like : {P Q : Type 0} → (P → Q) → (Q → P) → Dec P → Dec Q
like to back (yes p) = yes (to p)
like to back (no n) = no (λ q. n (back q))

-- two decisions
abbrev both : {P Q : Type 0} → Dec P → Dec Q → Dec (P × Q)
both (yes p) (yes q) = yes (p, q)
both (yes p) (no n) = no (λ x. n x.1)
both (no n) d = no (λ x. n x.0)

abbrev least : (a b : ℤ) (t : Bool) → le_z a b ≡ t → Dec (a ≤ℤ b)
least a b true e = yes (le_z_true a b e)
least a b false e = no (λ h. true_false (sym (true_le_z h) ∙ e))

abbrev below : (a b : ℕ) (t : Bool) → ltb a b ≡ t → Dec (a < b)
below a b true e = yes (ltb-true a b e)
below a b false e = no (λ h. true_false (sym (lt-ltb a b h) ∙ e))

abbrev at_most : (a b : ℕ) (t : Bool) → leb a b ≡ t → Dec (a ≤ b)
at_most a b true e = yes (leb-true a b e)
at_most a b false e = no (λ h. true_false (sym (le-leb a b h) ∙ e))

-- a number is in the range of a field
abbrev pub inside_decided : (field : ℕ) (z : ℤ) → Dec (range.Inside field z)
inside_decided field z =
    like (λ x. record { low = x.0; high = x.1 }) (λ x. (x.low, x.high))
    (both (least (range.range_of field).low z (le_z (range.range_of field).low z) refl) (least z (range.range_of field).high (le_z z (range.range_of field).high) refl))

-- question 3 of the line of a type
abbrev pub type_decided : (t : ResourceType) → Dec (TypeInRange t)
type_decided t =
    like (λ x. record { instances = x.0; latency = x.1.0; busy = x.1.1 }) (λ x. (x.instances, (x.latency, x.busy)))
    (both (inside_decided range.instances (pos t.instances))
    (both (inside_decided range.latency (pos t.latency)) (inside_decided range.busy (pos t.busy))))

-- question 3 of the line of an operation
abbrev pub op_decided : (types horizon : ℕ) (o : Operation) → Dec (OpInRange types horizon o)
op_decided types horizon o =
    like (λ x. record { resource = x.0; lo = x.1.0; hi = x.1.1 }) (λ x. (x.resource, (x.lo, x.hi)))
    (both (below o.resource types (ltb o.resource types) refl)
    (both (below o.lo horizon (ltb o.lo horizon) refl) (below o.hi horizon (ltb o.hi horizon) refl)))

-- question 16 of the line of an operation
abbrev pub window_decided : (o : Operation) → Dec (NonEmptyWindow o)
window_decided o = at_most o.lo o.hi (leb o.lo o.hi) refl

-- question 3 of the line of an edge
abbrev pub edge_decided : (ops : ℕ) (e : Edge) → Dec (EdgeInRange ops e)
edge_decided ops e =
    like (λ x. record { from = x.0; to = x.1.0; delay = x.1.1.0; distance = x.1.1.1 }) (λ x. (x.from, (x.to, (x.delay, x.distance))))
    (both (below e.from ops (ltb e.from ops) refl)
    (both (below e.to ops (ltb e.to ops) refl)
    (both (inside_decided range.delay e.delay) (inside_decided range.distance (pos e.distance)))))
