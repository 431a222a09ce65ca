-- A line in each turn; what is left to write gets shorter.
use Rattle.std.proofs.Common.{◌≡◌, ◌+◌, ◌-◌, ◌*◌, ◌/◌, length, refl, sym, ap, arith, ◌∙◌, length-drop}
use Rattle.std.proofs.lemmas.List.Edits.{sets}
use Rattle.sheetwrite.specs.LawsWrite.{eight_within, eight_after, eight_line, lines_all, lines_turn, lines_done}
use Rattle.sheetwrite.proofs.write.put_lines.Goals as goal

pub loop-k-init : goal.loop-k-init
loop-k-init c = rw (c.into_iter-k-iterator.ensures.into_iter_gives, c.enumerate-k-items.ensures.count, c.enumerate-k-items.ensures.source, c.chunks_exact.ensures.size, c.chunks_exact.ensures.rest)
    (record { size = refl; count = omega arith; rest = refl; left = lines_all c.args.at (length c.args.words.now / 8) c.args.words.now c.args.out.now })

pub loop-k-preserved : goal.loop-k-preserved
loop-k-preserved c = let a = c.in-Some.ensures.steps in
    let long = a.0.1.1 ∙ c.loop-k.invariant.size in
    let within = eight_within c.args.words.now _ _ _ c.loop-k.k-iterator.count c.loop-k.invariant.rest a.0.1.0 long in
    let here = eight_line c.args.words.now _ _ _ c.loop-k.k-iterator.count c.loop-k.invariant.rest a.0.1.0 long in
    rw a.2 (record {
      size = a.0.0 ∙ c.loop-k.invariant.size;
      count = omega arith;
      rest = eight_after c.args.words.now _ _ _ c.loop-k.k-iterator.count c.loop-k.invariant.rest a.0.1.0 long;
      left = c.loop-k.invariant.left ∙ lines_turn _ _ _ _ _ _ (omega arith) (rw a.1 at c.put_line.ensures ∙ ap (sets c.loop-k.out (c.args.at + 45 * c.loop-k.k-iterator.count)) here);
    })

pub returns : goal.returns
returns c = let a = c.in-None.ensures.steps in
    let left : length c.loop-k.k-iterator.iter.rest.now ≡ length c.args.words.now - 8 * c.loop-k.k-iterator.count = ap length c.loop-k.invariant.rest ∙ length-drop (8 * c.loop-k.k-iterator.count) c.args.words.now in
    sym (c.loop-k.invariant.left ∙ lines_done _ _ _ _ _ (omega (arith, a.0.1.0, c.loop-k.invariant.size)))
