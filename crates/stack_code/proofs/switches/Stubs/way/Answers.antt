use Rattle.std.proofs.Common.{◌≢◌, ap, subst, ◌∙◌, ℕ, List, length, get_or, Ok, Err, nat_cmp, inl, inr, arith}
use Rattle.std.specs.List.Sorted.{IsBinarySearchResult}
use Rattle.std.proofs.lemmas.Bool.{cases_lt}
use Rattle.std.proofs.lemmas.List.Sorted.{searched}
use Rattle.stack_code.specs.Modes.{shape_marks}
use Rattle.stack_code.specs.Places.{place_in}
use Rattle.stack_code.specs.Laying.{stub_at}
use Rattle.stack_code.proofs.StubLaws.{rising, many_stubs, stub_found, stub_missing, land_far}
use Rattle.stack_code.proofs.switches.Stubs.way.Goals as goal

pub index-requires : goal.index-requires
index-requires c =
    let s = c.args.self.now in
    let m = shape_marks c.args.marks.now c.args.from in
    let h = searched s.goals.items c.args.target (Ok c.in-Ok.place)
    (subst (λ (l : List ℕ). IsBinarySearchResult (λ y. nat_cmp y c.args.target) l (Ok c.in-Ok.place))
    c.deref.ensures.value c.in-Ok.ensures.position) (rising s.goals.items c.requires.ascend) in
    let lt = h.0 in
    let many = many_stubs m s.first s.goals.items in
    let e = ap (λ (l : List ℕ). length l) c.requires.places_are in
    let ok = s.places.ok.0 in
    omega (arith, lt, many, e, ok)

pub returns-in-Ok : goal.returns-in-Ok
returns-in-Ok c =
    let s = c.args.self.now in
    let m = shape_marks c.args.marks.now c.args.from in
    let h = searched s.goals.items c.args.target (Ok c.in-Ok.place)
    (subst (λ (l : List ℕ). IsBinarySearchResult (λ y. nat_cmp y c.args.target) l (Ok c.in-Ok.place))
    c.deref.ensures.value c.in-Ok.ensures.position) (rising s.goals.items c.requires.ascend) in
    let other = c.if-count-eq0.false in let count = c.count.ensures.value in
    let some : length (m c.args.target) ≢ 0 = (λ e. omega (arith, e, other, count)) in
    c.index.ensures
    ∙ ap (λ (l : List ℕ). get_or l c.in-Ok.place c.index.result.now) c.requires.places_are
    ∙ stub_found m s.first s.goals.items c.in-Ok.place c.args.target c.index.result.now c.requires.ascend h.0 h.1
    ∙ land_far (m c.args.target) (place_in c.args.starts.now.places.items c.args.starts.now.end c.args.target)
    (stub_at m s.first s.goals.items c.args.target) some

pub returns-in-Err : goal.returns-in-Err
returns-in-Err c =
    let s = c.args.self.now in
    let m = shape_marks c.args.marks.now c.args.from in
    let i : ℕ = c.in-Err.field-0 in
    let h = searched s.goals.items c.args.target (Err i)
    (subst (λ (l : List ℕ). IsBinarySearchResult (λ y. nat_cmp y c.args.target) l (Err i))
    c.deref.ensures.value c.in-Err.ensures.position) (rising s.goals.items c.requires.ascend) in
    let other = c.if-count-eq0.false in let count = c.count.ensures.value in
    let some : length (m c.args.target) ≢ 0 = (λ e. omega (arith, e, other, count)) in
    c.requires.end_is
    ∙ stub_missing m s.first s.goals.items c.args.target
    (λ k lt same. elim (cases_lt k i) [
      | inl low ↦ (let a = h.1 k low in omega (arith, a, same))
      | inr up ↦ (let a = h.2 k up lt in omega (arith, a, same))
    ])
    ∙ land_far (m c.args.target) (place_in c.args.starts.now.places.items c.args.starts.now.end c.args.target)
    (stub_at m s.first s.goals.items c.args.target) some
