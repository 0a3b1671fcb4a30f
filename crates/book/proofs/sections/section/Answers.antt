-- `book::section` meets its contract.
use Rattle.std.proofs.Common.{arith}
use Rattle.book.proofs.ReaderLaws.{read, stopped, passed_up}
use Rattle.book.proofs.SectionLaws.{section_stop, section_read, count_fits, put_behind, before_stays}
use Rattle.book.proofs.sections.section.Goals as goal

pub returns-in_err-count : goal.returns-in_err-count
returns-in_err-count c = section_stop _ _ _ _ _ _ _ _ (stopped _ _ _ c.field.ensures c.in_err-count.was)
    (passed_up c.from_residual.ensures.1)

pub records-requires : goal.records-requires
records-requires c = let few =
    count_fits c.args.counts.low c.args.counts.high c.args.book.now c.args.place _ _
    (read _ _ _ c.field.ensures c.in_ok-count.was) in (
      omega (arith, c.requires.0, few, c.put.auto.index),
      omega (arith, c.requires.1, few),
      before_stays c.args.book.now c.args.base c.args.index.now _
          (put_behind c.args.base c.in_ok-count.count.value c.args.index.now _ c.put.ensures) c.args.sort c.requires.2,
    )

pub returns : goal.returns
returns c = let args = c.args in
    let pre = c.requires in
    let put = c.put in
    let records = c.records in
    let count-read = read _ _ _ c.field.ensures c.in_ok-count.was in
    let few = count_fits args.counts.low args.counts.high args.book.now args.place _ _ count-read in
    section_read _ _ _ _ _ _ _ _ _ count-read few _ _ _ (omega (arith, pre.0)) put.ensures pre.2
    records.ensures
