use Rattle.std.proofs.Common.{sym, subst, subst₂, le_of_lt, ℕ, Bor, take, take_all, arith, chars, List, Option}
use Rattle.elasticlunr_text.specs.declared.lang.en.endings.Cut.{Cut}
use Rattle.elasticlunr_text.specs.Suffixes.{Ending}
use Rattle.elasticlunr_text.specs.Stems.{listed}
use Rattle.elasticlunr_text.proofs.CutLemmas.{BestAmong, listed-more, IfNone-best, best-none, best-kept, best-better}
use Rattle.elasticlunr_text.proofs.CutLemmas.{best-first}
use Rattle.elasticlunr_text.proofs.EndingLemmas.{listed-ascii}
use Rattle.elasticlunr_text.proofs.lang.en.endings.shortest_cut.Goals as goal
use Rattle.elasticlunr_text.proofs.lang.en.endings.shortest_cut.Goals.{in-Some-best, in_default-best}
use Rattle.elasticlunr_text.proofs.lang.en.endings.shortest_cut.Goals.{in_default-best-via-in-Some-best+else-suffix-shortest}
use Rattle.elasticlunr_text.proofs.lang.en.endings.shortest_cut.Goals.{in_default-best-via-in_default-best}

pub stem_before-requires : goal.stem_before-requires
stem_before-requires c = listed-ascii c.args.endings.now c.loop-suffix.suffix-index _ c.requires c.loop-suffix-test.true

pub loop-suffix-preserved-in_default : goal.loop-suffix-preserved-in_default
loop-suffix-preserved-in_default c =
    let w = chars c.args.word.now in
    subst (λ (T : List Ending). BestAmong T w c.loop-suffix.best)
    (sym (listed-more c.args.endings.now c.loop-suffix.suffix-index _ c.loop-suffix-test.true))
    (best-none _ w _ _ c.loop-suffix.best c.loop-suffix.invariant c.in_default.ensures.none)

pub loop-suffix-preserved : goal.loop-suffix-preserved
loop-suffix-preserved c =
    let T = listed (take c.loop-suffix.suffix-index c.args.endings.now) in
    let w = chars c.args.word.now in
    let best = c.loop-suffix.best in
    elim c.match-best.branch [
      | in-Some-best v ↦
          subst₂ (λ (S : List Ending) (o : Option Cut). BestAmong S w o)
          (sym (listed-more c.args.endings.now c.loop-suffix.suffix-index _ c.loop-suffix-test.true))
          (sym v.best-is)
          (best-kept T w _ _ best v.in-Some-best.shortest v.in-Some-best.is c.loop-suffix.invariant
          v.if-suffix-shortest.true)
      | in_default-best v ↦ elim v.in_default-best.branch [
        | in_default-best-via-in-Some-best+else-suffix-shortest u ↦
            subst₂ (λ (S : List Ending) (o : Option Cut). BestAmong S w o)
            (sym (listed-more c.args.endings.now c.loop-suffix.suffix-index _ c.loop-suffix-test.true))
            (sym v.best-is)
            (best-better T w (chars c.in-Some.stem.now) _ _ best u.in-Some-best.shortest u.in-Some-best.is
            c.loop-suffix.invariant c.in-Some.ensures.stem c.in-Some.ensures.split
            (le_of_lt u.if-suffix-shortest.false))
        | in_default-best-via-in_default-best u ↦
            subst₂ (λ (S : List Ending) (o : Option Cut). BestAmong S w o)
            (sym (listed-more c.args.endings.now c.loop-suffix.suffix-index _ c.loop-suffix-test.true))
            (sym v.best-is)
            (best-first T w (chars c.in-Some.stem.now) _ _ best u.in_default-best.is c.loop-suffix.invariant
            c.in-Some.ensures.stem c.in-Some.ensures.split)
      ]
    ]

pub returns-clause-none : goal.returns-clause-none
returns-clause-none c =
    let all = take_all c.loop-suffix.suffix-index c.args.endings.now (omega arith) in
    let h = subst (λ (t : List (Bor (List ℕ) × Bor (List ℕ))). BestAmong (listed t) (chars c.args.word.now)
    c.loop-suffix.best) all c.loop-suffix.invariant in
    IfNone-best (listed c.args.endings.now) (chars c.args.word.now) c.loop-suffix.best h
