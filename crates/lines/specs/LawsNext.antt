-- Laws of taking lines: one for each way through the core, of a reader, and what a line that was taken tells.
use Rattle.std.specs.Prelude.{ℕ, ◌+◌, ◌-◌, ◌≤◌, ◌<◌, ◌≡◌, min, List, take, drop}
use Rattle.std.proofs.Common.{arith, ap, ◌∙◌, lt-ltb, le-ltb}
use Rattle.std.proofs.Math.Path.{sym}
use Rattle.std.proofs.Math.Decide.{dec_lt}
use Rattle.std.proofs.Math.ListN.{length}
use Rattle.words.specs.LawsChoice.{pick_true, pick_false}
use Rattle.lines.specs.Lines.{line_at, end_of, most_line, number_after, next_line, line_of, moved_on, Takes}
use Rattle.lines.specs.LawsLine.{Ended, piece, end_most, end_least, line_length, line_short, line_taken}
use Rattle.lines.specs.declared.Lines.{Lines}
use Rattle.lines.specs.declared.NextLine.{NextLine}

-- ---- the core

pub number_more : (line : ℕ) → line < most_line → line + 1 ≡ number_after line
unfolding number_after
number_more line h = sym (pick_true _ _ _ (lt-ltb line most_line h))

pub number_stays : (line : ℕ) → most_line ≤ line → line ≡ number_after line
unfolding number_after
number_stays line h = sym (pick_false _ _ _ (le-ltb line most_line h))

-- one more, up to the largest
pub number_told : (line r : ℕ) → line ≤ most_line → r ≡ min (line + 1) most_line → r ≡ number_after line
number_told line r fits e = by (dec_lt line most_line)
  where
    by : Dec (line < most_line) → r ≡ number_after line
    by (yes h) = rw (← number_more line h) (omega arith)
    by (no h) = rw (← number_stays line (omega arith)) (omega arith)

-- the search ends at or after its start
pub end_after : (text : List ℕ) (at end : ℕ) → at < length text → end ≡ end_of text at → at ≤ end
end_after text at end h e = let low : at ≤ end_of text at = end_least text at (omega arith) in omega arith

module _ (text : List ℕ) (at line : ℕ) where
  pub next_is : at < length text → (end n number : ℕ) → end ≡ end_of text at → Ended (take (end - at) (drop at text)) n → number ≡ number_after line
      → record { start = at; stop = at + n; at = end + 1; line = number } ≡ next_line text at line
  unfolding next_line
  next_is h end n number e l f =
      let here : Ended (piece text at (omega arith)) n = (unfold piece in rw e at l) in
      let long : n ≡ length (line_at text at) = line_length text at (omega arith) n here in
      (λ i. record { start = at; stop = at + long i; at = e i + 1; line = f i }) ∙ sym (pick_true _ _ _ (lt-ltb at (length text) h))

  pub next_none : length text ≤ at → record { start = length text; stop = length text; at = at; line = line } ≡ next_line text at line
  unfolding next_line
  next_none h = sym (pick_false _ _ _ (le-ltb at (length text) h))

-- ---- the reader

-- the reader with the position and the number that the core answered is the one past the line
pub takes_line : (l : Lines) (r : NextLine) → r ≡ next_line l.text.now l.at l.line → Takes l r (record { text = l.text; at = r.at; line = r.line })
unfolding line_of moved_on
takes_line l r e = record { answer = e; reader = λ i. record { text = l.text; at = (e i).at; line = (e i).line } }

-- a line taken by a reader is the core's
pub taken_is : (l l' : Lines) (r : NextLine) → Takes l r l' → r ≡ next_line l.text.now l.at l.line
unfolding line_of
taken_is l l' r t = t.answer

-- ---- a line that was left

pub record Taken (text : List ℕ) (at line : ℕ) (n : NextLine) : Type 0 where
  pub low : at ≤ n.stop
  pub within : n.stop ≤ length text
  pub line_is : take (n.stop - at) (drop at text) ≡ line_at text at
  pub at_is : n.at ≡ end_of text at + 1
  pub on : at < n.at
  pub far : n.at ≤ length text + 1
  pub number_is : n.line ≡ line + 1

pub next_left : (text : List ℕ) (at line : ℕ) (n : NextLine) → n ≡ next_line text at line → at < length text → line < most_line → Taken text at line n
unfolding next_line
next_left text at line n e h k =
    let is : n ≡ record { start = at; stop = at + length (line_at text at); at = end_of text at + 1; line = number_after line } = e ∙ pick_true _ _ _ (lt-ltb at (length text) h) in
    let stop : n.stop ≡ at + length (line_at text at) = ap (λ x. x.stop) is in
    let next : n.at ≡ end_of text at + 1 = ap (λ x. x.at) is in
    let short : at + length (line_at text at) ≤ end_of text at = line_short text at (omega arith) in
    let most : end_of text at ≤ length text = end_most text at (omega arith) in
    let count : n.stop - at ≡ length (line_at text at) = omega arith in
    record {
      low = omega arith;
      within = omega arith;
      line_is = rw count (line_taken text at (omega arith));
      at_is = next;
      on = omega arith;
      far = omega arith;
      number_is = ap (λ x. x.line) is ∙ sym (number_more line k);
    }
