-- Writing a text in pieces.
use Rattle.std.proofs.Common.{◌≡◌, true, false, cond, ℕ, ◌+◌, ◌≤◌, List, ◌++◌, length, take, refl, sym, ◌∙◌, ap, append_assoc, append-nil, arith}
use Rattle.std.proofs.Math.Seq.{take-append-add, take-length}
use Rattle.std.proofs.lemmas.List.{take-append-le, length-append}
use Rattle.std.specs.Prelude.{Option, Some, None, Result, Ok, Err, IfSome, [], ◌∷◌}
use Rattle.cov_outside.specs.Outside.{HasCause, WritesAll}
use Rattle.cov_outside.specs.declared.faults.SinkFault.{SinkFault}
use Rattle.cov_outside.specs.declared.faults.SinkFault.TheVariants as sink_fault
use Rattle.cov_answers.specs.declared.answers.End.{End}
use Rattle.cov_answers.specs.Answers.{IsTold, is_silent, whole_line, line_of}

-- where the first piece was cut, a front of both pieces was written
pub cut_first : (before after : Option (List ℕ)) (fault : SinkFault) (xs ys : List ℕ) → WritesAll before after (Err fault) xs → WritesAll before after (Err fault) (xs ++ ys)
cut_first None after fault xs ys h = h
cut_first (Some before) after fault xs ys h =
    let le : h.0 ≤ length xs = h.1 in
    (h.0, omega (arith, length-append xs ys, le), h.2 ∙ ap (λ front. Some (before ++ front)) (sym (take-append-le h.0 xs ys le)))

-- where the first piece was written whole, what holds of the second holds of both
pub both : (before mid after : Option (List ℕ)) (done : Unit {0}) (result : Result (Unit {0}) SinkFault) (xs ys : List ℕ)
    → WritesAll before mid (Ok done) xs → WritesAll mid after result ys → WritesAll before after result (xs ++ ys)
both None mid after done result xs ys h k = untold mid after result ys h k
  where
    untold : (mid after : Option (List ℕ)) (result : Result (Unit {0}) SinkFault) (ys : List ℕ) → mid ≡ None → WritesAll mid after result ys → after ≡ None
    untold None after result ys h k = k
    untold (Some mid) after result ys h k = absurd (cc)
both (Some before) None after done result xs ys h k = absurd (cc)
both (Some before) (Some mid) after done (Ok all) xs ys h k =
    let e : mid ≡ before ++ xs = cc in
    k ∙ ap (λ front. Some (front ++ ys)) e ∙ ap Some (append_assoc before xs ys)
both (Some before) (Some mid) after done (Err fault) xs ys h k =
    let e : mid ≡ before ++ xs = cc in (
      length xs + k.0,
      omega (arith, length-append xs ys, k.1),
      k.2 ∙ ap (λ front. Some (front ++ take k.0 ys)) e ∙ ap Some (append_assoc before xs (take k.0 ys) ∙ ap (λ part. before ++ part) (sym (take-append-add xs ys k.0))),
    )

-- what was written of a text is a front of it, and without a fault and a want of memory the whole text
pub told_of : (told after : Option (List ℕ)) (result : Result (Unit {0}) SinkFault) (text : List ℕ) (Fault Want : Type 0)
    → (result ≡ Err sink_fault.Failed → Fault) → (result ≡ Err sink_fault.NoMemory → Want) → WritesAll told after result text
    → IfSome told (λ before. IsTold text before after Fault Want)
told_of None after result text Fault Want fault want h = tt
told_of (Some before) after (Ok done) text Fault Want fault want h = record {
  front = record { count = length text; within = omega arith; written = h ∙ ap (λ t. Some (before ++ t)) (sym (take-length text)) };
  whole = λ no_fault no_want. h;
}
told_of (Some before) after (Err sink_fault.Failed) text Fault Want fault want h = record {
  front = record { count = h.0; within = h.1; written = h.2 };
  whole = λ no_fault no_want. absurd (no_fault (fault refl));
}
told_of (Some before) after (Err sink_fault.NoMemory) text Fault Want fault want h = record {
  front = record { count = h.0; within = h.1; written = h.2 };
  whole = λ no_fault no_want. absurd (no_want (want refl));
}

-- an answer that isn't silent has its whole line
pub line_loud : (end : End) → is_silent end ≡ false → line_of end ≡ whole_line end
unfolding line_of
line_loud end e = ap (λ b. cond b [] (whole_line end)) e

-- one that is silent has none
pub line_silent : (end : End) → is_silent end ≡ true → line_of end ≡ []
unfolding line_of
line_silent end e = ap (λ b. cond b [] (whole_line end)) e

-- nothing was written
pub nothing_written : (told : Option (List ℕ)) (done : Unit {0}) → WritesAll told told (Ok done) []
nothing_written None done = refl
nothing_written (Some before) done = ap Some (sym (append-nil before))

-- what stays as it was has no fault
pub no_cause : (count : ℕ) (fault : Type 0) → (fault → ⊥) → HasCause count count fault
no_cause count fault never = record { later = omega arith; stays = λ e. e; risen = λ h. absurd (never h) }
