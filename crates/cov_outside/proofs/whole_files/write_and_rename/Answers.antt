-- The new file is written whole before it takes the name.
use Rattle.std.proofs.Common.{subst, sym}
use Rattle.std.proofs.lemmas.Result.{err_from_is_err_and}
use Rattle.cov_outside.specs.FileCalls.{KeepsOthers, Puts, Told}
use Rattle.cov_outside.proofs.FileLaws.{Told-join, Told-weaker, created_whole, created_fault, renamed_whole, puts_others}
use Rattle.cov_outside.proofs.whole_files.write_and_rename.Goals as goal

pub returns-in_err-append_all-clause-replaces : goal.returns-in_err-append_all-clause-replaces
returns-in_err-append_all-clause-replaces g c =
    let p = err_from_is_err_and c.from_residual-in_err-append_all.result c.from_residual-in_err-append_all.ensures.1 in
    let none = Told-join _ _ (KeepsOthers c.args.fresh.now) (created_fault g.C.FileCalls.name_of c.in_ok-file.file c.args.fresh.now c.args.bytes.now c.in_err-append_all.field-0.0) _ _ _ c.in_ok-file.ensures.creates c.in_err-append_all.ensures.appends in
    rw (p.1) (subst (λ fresh. Told (KeepsOthers fresh) (g.C.FileCalls.files c.args.calls.now) (g.C.FileCalls.files c.append_all.new.calls)) c.requires none)

pub returns-in_err-sync-clause-replaces : goal.returns-in_err-sync-clause-replaces
returns-in_err-sync-clause-replaces g c =
    let p = err_from_is_err_and c.from_residual-in_err-sync.result c.from_residual-in_err-sync.ensures.1 in
    let before = g.C.FileCalls.files c.args.calls.now in
    let put = Told-join _ _ (Puts c.args.fresh.now c.args.bytes.now) (created_whole g.C.FileCalls.name_of c.in_ok-file.file c.args.fresh.now c.args.bytes.now c.in_ok-append_all.field-0) _ _ _ c.in_ok-file.ensures.creates c.in_ok-append_all.ensures.appends in
    let none : Told (KeepsOthers c.args.fresh.now) before (g.C.FileCalls.files c.append_all.new.calls) = Told-weaker _ _ (puts_others c.args.fresh.now c.args.bytes.now) _ _ put in
    rw (p.1) (subst (λ fresh. Told (KeepsOthers fresh) before (g.C.FileCalls.files c.sync.new.self)) c.requires (subst (Told (KeepsOthers c.args.fresh.now) before) (sym c.sync.ensures.stands) none))

pub returns-clause-replaces : goal.returns-clause-replaces
returns-clause-replaces g c =
    let before = g.C.FileCalls.files c.args.calls.now in
    let put = Told-join _ _ (Puts c.args.fresh.now c.args.bytes.now) (created_whole g.C.FileCalls.name_of c.in_ok-file.file c.args.fresh.now c.args.bytes.now c.in_ok-append_all.field-0) _ _ _ c.in_ok-file.ensures.creates c.in_ok-append_all.ensures.appends in
    let synced : Told (Puts c.args.fresh.now c.args.bytes.now) before (g.C.FileCalls.files c.sync.new.self) = subst (Told (Puts c.args.fresh.now c.args.bytes.now) before) (sym c.sync.ensures.stands) put in
    Told-join _ _ _ (λ x y z. renamed_whole c.args.fresh.now c.args.name.now c.args.bytes.now c.rename.result x y z c.requires) _ _ _ synced c.rename.ensures.renames
