mod NotifyBack
