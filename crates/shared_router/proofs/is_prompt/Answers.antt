use Rattle.std.proofs.Common.{arith}
use Rattle.shared_router.proofs.Prompting.{prompts_kept}
use Rattle.shared_router.proofs.is_prompt.Goals as goal

pub returns : goal.returns
returns c = λ fixed log our. prompts_kept fixed log (omega (arith, our.bounded)) our.ours our.fits
