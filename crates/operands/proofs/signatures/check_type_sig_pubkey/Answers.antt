use Rattle.std.proofs.lemmas.Result.{err_from_is_err_and}
use Rattle.rules.specs.Types.{signature, key, sig_key}
use Rattle.operands.proofs.Laws.{left-under, right-under, two-pass, two-fault}
use Rattle.operands.proofs.signatures.check_type_sig_pubkey.Goals as goal

pub check_signature-requires : goal.check_signature-requires
check_signature-requires c = left-under c.requires

pub returns-in_err-n : goal.returns-in_err-n
unfolding sig_key
returns-in_err-n c =
    let p = err_from_is_err_and c.from_residual.result c.from_residual.ensures.1 in
    rw (p.1, p.2, ← c.in_err-n.was) (two-fault _ _ _ _ _ (λ e g ps. signature ps e) (λ e g ps. key g e) _ c.in_err-n.was c.check_signature.ensures)

pub check_key-requires : goal.check_key-requires
check_key-requires c = (right-under _ _ _ _ _ (λ e g ps. signature ps e) _ c.in_ok-n.was c.check_signature.ensures c.requires).0

pub returns : goal.returns
unfolding sig_key
returns c = two-pass _ _ _ _ _ (λ e g ps. signature ps e) _ c.in_ok-n.was c.check_signature.ensures (λ e g ps. key g e) _ c.check_key.ensures
