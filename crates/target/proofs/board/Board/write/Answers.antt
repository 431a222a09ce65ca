-- The counter's row, one word of configuration space, or nothing.
use Rattle.std.proofs.Common.{ℕ, List, ◌≡◌, refl, ap, arith}
use Rattle.target.specs.Model.{done}
use Rattle.target.specs.Step.{Target, changed}
use Rattle.target.specs.LawsHits.{set_within}
use Rattle.target.specs.LawsCells.{some_row, latch_of_lem, cell_low, cell_within, begin_locked, begin_row, begin_between, begin_other, begin_word}
use Rattle.target.specs.LawsHeld.{target_of, rules_at, sound_at, leaves}
use borrow.Author.Rules.{rules}
use Rattle.target.proofs.board.Board.write.Goals as goal

-- a target with equal cells
put : (t : Target) {x y : List ℕ} → x ≡ y → done (changed x t) ≡ done (changed y t)
put t e = ap (λ cells. done (changed cells t)) e

pub returns-then-is_protected : goal.returns-then-is_protected
returns-then-is_protected c = leaves _ _ _ _ (put (target_of c.args.self.now) (begin_locked _ (sound_at c.args.self.now) _ _ _ c.if-at-d.true _ c.is_protected.ensures c.if-is_protected.true)) refl refl refl

pub nonzero_div-a : goal.nonzero_div-a
nonzero_div-a c = some_row _ (rules_at c.args.self.now)

pub write_row-requires : goal.write_row-requires
write_row-requires c = let h = set_within _ (sound_at c.args.self.now) _ c.if-at-d.true in ((sound_at c.args.self.now).carried, omega (arith, c.args.self.now.long))

pub returns-then-at-d : goal.returns-then-at-d
returns-then-at-d c = leaves _ _ _ _ (put (target_of c.args.self.now) (begin_row _ (rules_at c.args.self.now) _ _ _ c.if-at-d.true _ c.is_protected.ensures c.if-is_protected.false _ c.write_row.ensures)) refl refl refl

pub returns-then-at-lt-CONFIG_BASE : goal.returns-then-at-lt-CONFIG_BASE
returns-then-at-lt-CONFIG_BASE c = leaves _ _ _ _ (put (target_of c.args.self.now) (begin_between _ (sound_at c.args.self.now) _ _ _ c.if-at-d.false c.if-at-lt-CONFIG_BASE.true)) refl refl refl

pub offset_bounds-self-i : goal.offset_bounds-self-i
offset_bounds-self-i c = let h = cell_low _ (rules_at c.args.self.now) c.cell_of-i.result _ c.programmable.ensures c.if-programmable.true in omega arith

pub bounds-self-i : goal.bounds-self-i
bounds-self-i c = search (cell_within, rules_at, rules)

pub nonzero_rem-a : goal.nonzero_rem-a
nonzero_rem-a c = some_row _ (rules_at c.args.self.now)

pub bounds-self-a : goal.bounds-self-a
bounds-self-a c = latch_of_lem _ (rules_at c.args.self.now) _

pub offset_bounds-self-i-then-programmable : goal.offset_bounds-self-i-then-programmable
offset_bounds-self-i-then-programmable c = let h = cell_low _ (rules_at c.args.self.now) c.cell_of-i.result _ c.programmable.ensures c.if-programmable.true in omega arith

pub bounds-self-i-then-programmable : goal.bounds-self-i-then-programmable
bounds-self-i-then-programmable c = search (cell_within, rules_at, rules)

pub returns-then-programmable : goal.returns-then-programmable
returns-then-programmable c = leaves _ _ _ _ (put (target_of c.args.self.now) (begin_word _ (rules_at c.args.self.now) _ _ _ c.if-at-lt-CONFIG_BASE.false _ c.cell_of-i.ensures _ c.programmable.ensures c.if-programmable.true _ c.burn.ensures)) refl refl refl

pub returns-else-programmable : goal.returns-else-programmable
returns-else-programmable c = leaves _ _ _ _ (put (target_of c.args.self.now) (begin_other _ (rules_at c.args.self.now) _ _ _ c.if-at-lt-CONFIG_BASE.false _ c.cell_of-i.ensures _ c.programmable.ensures c.if-programmable.false)) refl refl refl
