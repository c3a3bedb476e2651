use Rattle.std.proofs.Common.{length, refl, sym, ap, subst, ◌∙◌, arith}
use Rattle.text.specs.Line.{refused}
use Rattle.text.specs.Text.{over}
use Rattle.refusal.specs.Number.{no_zero}
use Rattle.sheet.specs.Facts.{ops_most}
use Rattle.sheet.specs.Questions.{accepted}
use Rattle.placing_table.specs.declared.Table.{Table}
use Rattle.placing_table.specs.Table.{Consistent}
use Rattle.page_text.specs.Page.{page_text}
use Rattle.page.specs.Answers.{Tabled}
use Rattle.page.specs.Making.{page_asked, page_short, page_denied, page_made}
use Rattle.page.proofs.page.Goals as goal

pub returns-in-Err : goal.returns-in-Err
returns-in-Err c = page_asked c.in-Err.ensures (no_zero _) (c.refuse.ensures ∙ ap refused c.number.ensures)

pub page_length-requires : goal.page_length-requires
page_length-requires c = accepted c.in_default.ensures refl

pub returns-then-out-page_length : goal.returns-then-out-page_length
returns-then-out-page_length c =
    page_short (accepted c.in_default.ensures refl) (omega (arith, c.page_length.ensures, c.if-out-page_length.true)) c.refuse-then-out-page_length.ensures

pub returns-then-starts-count : goal.returns-then-starts-count
returns-then-starts-count c =
    page_denied (accepted c.in_default.ensures refl) (omega (arith, c.page_length.ensures, c.if-out-page_length.false)) (λ f. omega (arith, c.if-starts-count.true, f.starts)) c.refuse-then-starts-count.ensures

pub returns-then-instances-count : goal.returns-then-instances-count
returns-then-instances-count c =
    page_denied (accepted c.in_default.ensures refl) (omega (arith, c.page_length.ensures, c.if-out-page_length.false)) (λ f. omega (arith, c.if-instances-count.true, f.instances)) c.refuse-then-instances-count.ensures

pub full_table-table-requires : goal.full_table-table-requires
full_table-table-requires c = (ops_most (accepted c.in_default.ensures refl).sheet, c.if-starts-count.false, c.if-instances-count.false)

pub returns-then-not-consistent : goal.returns-then-not-consistent
returns-then-not-consistent c =
    let s = c.args in
    page_denied (accepted c.in_default.ensures refl) (omega (arith, c.page_length.ensures, c.if-out-page_length.false))
    (λ f. c.consistent.ensures.no c.if-not-consistent.true (subst (Consistent s.sheet s.interval) (sym c.full_table-table.ensures) f.consistent)) c.refuse-then-not-consistent.ensures

pub put_page-bytes-requires : goal.put_page-bytes-requires
put_page-bytes-requires c = (accepted c.in_default.ensures refl, omega (arith, c.page_length.ensures, c.if-out-page_length.false))

pub returns : goal.returns
returns c =
    let s = c.args in
    let y = accepted c.in_default.ensures refl in
    let t = c.full_table-table.ensures in
    let p = c.put_page-bytes.ensures in
    let full : Tabled s.sheet s.interval s.starts.now s.instances.now = record {
      starts = c.if-starts-count.false;
      instances = c.if-instances-count.false;
      consistent = subst (Consistent s.sheet s.interval) t (c.consistent.ensures.yes c.if-not-consistent.false);
    } in
    page_made y (omega (arith, c.page_length.ensures, c.if-out-page_length.false)) full
    (p.value ∙ ap (λ (x : Table). length (page_text s.sheet s.interval x)) t) (p.out_after ∙ ap (λ (x : Table). over (page_text s.sheet s.interval x) s.out.now) t)
