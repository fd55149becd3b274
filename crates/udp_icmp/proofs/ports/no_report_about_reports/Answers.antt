use Rattle.udp_icmp.proofs.ReportLaws.{nothing_about_reports}
use Rattle.udp_icmp.proofs.ports.no_report_about_reports.Goals as goal

pub returns : goal.returns
returns c = nothing_about_reports
