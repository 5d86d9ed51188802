use Rattle.std.proofs.Common.{◌≡◌, ◌≤◌, true, drop}
use Rattle.std.specs.List.{fold, list_all}
use Rattle.elasticlunr_stems.specs.Reading.{with_digit, is_digit}
use Rattle.elasticlunr_stems.proofs.words.number_in.Given as goal

-- no digit, or one to four of them, make no more than 0, 9, 99 and so on
abbrev pub invariant-loop-c : goal.invariant-loop-c
invariant-loop-c l = record {
  value : fold with_digit l.number (drop l.c-index l.word) ≡ fold with_digit 0 l.word;
  digits : list_all is_digit (drop l.c-index l.word) ≡ true;
  none : l.c-index ≤ 0 → l.number ≤ 0;
  one : l.c-index ≤ 1 → l.number ≤ 9;
  two : l.c-index ≤ 2 → l.number ≤ 99;
  three : l.c-index ≤ 3 → l.number ≤ 999;
  four : l.c-index ≤ 4 → l.number ≤ 9999;
}
