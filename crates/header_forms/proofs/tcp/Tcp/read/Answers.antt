use Rattle.header_forms.proofs.TcpLaws.{tcp_value, tcp_exact, tcp_again}
use Rattle.header_forms.proofs.tcp.Tcp.read.Goals as goal

pub returns-clause-value : goal.returns-clause-value
returns-clause-value c = tcp_value c.read_checked.result c.args.bytes.now c.read_checked.ensures

pub returns-clause-exact : goal.returns-clause-exact
returns-clause-exact c =
    tcp_exact c.read_checked.result c.args.bytes.now (tcp_value c.read_checked.result c.args.bytes.now c.read_checked.ensures)

pub returns-clause-again : goal.returns-clause-again
returns-clause-again c = λ h rest fits is.
    tcp_exact c.read_checked.result c.args.bytes.now (tcp_value c.read_checked.result c.args.bytes.now c.read_checked.ensures) h rest
    (tcp_again h c.args.bytes.now rest fits is)
