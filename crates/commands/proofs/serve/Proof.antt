-- `commands::serve` meets its contract, command by command.
-- From what the services' lines, `put`, `plan`, `first` and `write` ensure.
use mathlib.Core.Path.{◌≡◌, sym, subst}
use mathlib.Core.List.{List}
use Prim.Native.Nat.{ℕ}
use Rattle.text.specs.declared.Written.{Written}
use Rattle.sheet.specs.declared.Sheet.{Sheet}
use Rattle.round_trip.proofs.RoundTrip.{text_short}
use Rattle.words.specs.declared.Command.{Command}
use Rattle.command_lines.specs.Shows.{lists}
use Rattle.command_lines.specs.Answers.{put, write_put}
use Rattle.command_lines.specs.Prints.{Serves, Put, check}
use borrow.Author.Rules.{rules}
use Rattle.commands.proofs.serve.Statement.{statement}
use Rattle.commands.proofs.serve.Tie as tie

-- of the command that was matched
of : {s : Sheet} {k c : Command} {old new : List ℕ} {r : Written} → c ≡ k → Put (Serves s k) old r new → Put (Serves s c) old r new
of {s} {old = old} {new} {r} e p = subst (λ (x : Command). Put (Serves s x) old r new) (sym e) p

enum_told : tie.Need-enum_told-1
enum_told c = search rules

bounds_requires : tie.Need-bounds-requires
bounds_requires c κs = search rules

put_requires : tie.Need-put-requires
put_requires c κs = search rules

enum_known_command : tie.Need-enum_known-command
enum_known_command c = search rules

starts_requires : tie.Need-starts-requires
starts_requires c κs = search rules

put_requires_2 : tie.Need-put-requires-in-Starts
put_requires_2 c κs = search rules

enum_known_command_2 : tie.Need-enum_known-command-in-Separations-1
enum_known_command_2 c = search rules

separations_requires : tie.Need-separations-requires
separations_requires c κs = search rules

put_requires_3 : tie.Need-put-requires-in-Separations
put_requires_3 c κs = search rules

enum_known_command_3 : tie.Need-enum_known-command-in-Plan-1
enum_known_command_3 c = search rules

plan_requires : tie.Need-plan-requires
plan_requires c κs = search rules

enum_known_command_4 : tie.Need-enum_known-command-in-Page-1
enum_known_command_4 c = search rules

first_requires : tie.Need-first-requires
first_requires c κs = search rules

enum_known_command_5 : tie.Need-enum_known-command-in-Order-1
enum_known_command_5 c = search rules

order_requires : tie.Need-order-requires
order_requires c κs = search rules

put_requires_4 : tie.Need-put-requires-in-Order
put_requires_4 c κs = search rules

enum_told_2 : tie.Need-enum_told-in-Check
enum_told_2 c = search rules

alone_requires : tie.Need-alone-requires
alone_requires c κs = search rules

put_requires_5 : tie.Need-put-requires-in-Check
put_requires_5 c κs = search rules

enum_told_3 : tie.Need-enum_told-in-Write
enum_told_3 c = search rules

write_requires : tie.Need-write-requires
write_requires c κs = search rules

same_length : tie.Need-shape_of-out-in-Bounds
same_length c = search rules

returns : tie.Need-returns-in-Bounds
returns c =
    let b = c in
    let w = c.put.ensures in
    of b.in-Bounds.is (put b.bounds.ensures w.0 w.1)

same_length_2 : tie.Need-shape_of-out-in-Starts
same_length_2 c = search rules

returns_2 : tie.Need-returns-in-Starts
returns_2 c =
    let b = c in
    let w = c.put-in-Starts.ensures in
    of b.in-Starts.is (put b.starts.ensures w.0 w.1)

same_length_3 : tie.Need-shape_of-out-in-Separations
same_length_3 c = search rules

returns_3 : tie.Need-returns-in-Separations
returns_3 c =
    let b = c in
    let w = c.put-in-Separations.ensures in
    of b.in-Separations.is (put b.separations.ensures w.0 w.1)

same_length_4 : tie.Need-shape_of-out-in-Plan
same_length_4 c = search rules

returns_4 : tie.Need-returns-in-Plan
returns_4 c =
    let b = c in
    of b.in-Plan.is b.plan.ensures

same_length_5 : tie.Need-shape_of-out-in-Page
same_length_5 c = search rules

returns_5 : tie.Need-returns-in-Page
returns_5 c =
    let b = c in
    of b.in-Page.is b.first.ensures

same_length_6 : tie.Need-shape_of-out-in-Order
same_length_6 c = search rules

returns_6 : tie.Need-returns-in-Order
returns_6 c =
    let b = c in
    let w = c.put-in-Order.ensures in
    of b.in-Order.is (put b.order.ensures w.0 w.1)

same_length_7 : tie.Need-shape_of-out-in-Check
same_length_7 c = search rules

returns_7 : tie.Need-returns-in-Check
returns_7 c =
    let b = c in
    let w = c.put-in-Check.ensures in
    of b.in-Check.is (put (lists b.alone.ensures check) w.0 w.1)

same_length_8 : tie.Need-shape_of-out-in-Write
same_length_8 c = search rules

returns_8 : tie.Need-returns-in-Write
returns_8 c =
    let b = c in
    let s = b in
    of b.in-Write.is (write_put s.requires.0 (text_short s.args.sheet s.requires.1 s.requires.0) b.write.ensures)

pub serve_spec : {M : Type 1} → statement M
serve_spec =
    tie.close
    (tie.spec
    enum_told
    bounds_requires
    put_requires
    enum_known_command
    starts_requires
    put_requires_2
    enum_known_command_2
    separations_requires
    put_requires_3
    enum_known_command_3
    plan_requires
    enum_known_command_4
    first_requires
    enum_known_command_5
    order_requires
    put_requires_4
    enum_told_2
    alone_requires
    put_requires_5
    enum_told_3
    write_requires
    same_length
    returns
    same_length_2
    returns_2
    same_length_3
    returns_3
    same_length_4
    returns_4
    same_length_5
    returns_5
    same_length_6
    returns_6
    same_length_7
    returns_7
    same_length_8
    returns_8)
