use Rattle.private_model.specs.View.{view_after}
use Rattle.router_promises.specs.Terms.{setup_in}
use Rattle.apart_cases.proofs.Kept.{could-come}
use Rattle.apart_cases.proofs.LeftBehind.{kept-behind-an-error}
use Rattle.apart_cases.proofs.left_behind.gives_back_behind_an_error.Goals as goal

pub returns : goal.returns
returns c = λ terms past link n due reply tells answered carries err.
    kept-behind-an-error (setup_in terms) (view_after (setup_in terms) past) n due link reply answered carries err (could-come terms _ _ tells)
